-- Which units of the other side the receipts name.
use Rattle.std.proofs.Common.{◌≡◌, ℕ, Option, Some, None, List, [], ◌∷◌, ◌++◌, refl, sym, ap, subst, ◌∙◌, arith}
use Rattle.std.proofs.Common.{append_assoc, length-append}
use Rattle.capture_record.specs.declared.record.Record.{Record}
use Rattle.capture_record.specs.declared.record.Record.TheVariants.{Sent, Received, Noise, User}
use Rattle.placing.specs.Placed.{AllFollow, HavePassed, IsUnit, NameUnits, NextIsPast, NextIsSent, Puts, Units, Waiting}
use Rattle.placing.specs.Placed.{nothing, records_of, with_other, with_own}

module _ (all : List (List ℕ)) where
  -- the next unit of the other side is the one after those that can't come any more
  next_is : (old new : Units) (bytes : List ℕ) → HavePassed all old → NextIsPast bytes old new → IsUnit all old.gone bytes
  next_is old new bytes h n =
      record { before = h.past; after = new.other; are = h.all_are ∙ ap (λ (us : List (List ℕ)). h.past ++ us) n.other; number_is = h.count }

  one_past : (old new : Units) (bytes : List ℕ) → HavePassed all old → NextIsPast bytes old new → HavePassed all new
  one_past old new bytes h n = record {
    past = h.past ++ bytes ∷ [];
    all_are = h.all_are ∙ ap (λ (us : List (List ℕ)). h.past ++ us) n.other ∙ sym (append_assoc h.past (bytes ∷ []) new.other);
    count = let len = length-append h.past (bytes ∷ []) in let was = h.count in let gone = n.gone in omega arith;
  }

  one_sent : (old new : Units) (bytes : List ℕ) → HavePassed all old → NextIsSent bytes old new → HavePassed all new
  one_sent old new bytes h n =
      record { past = h.past; all_are = h.all_are ∙ ap (λ (us : List (List ℕ)). h.past ++ us) (sym n.other); count = h.count ∙ sym n.gone }

  same : (old new : Units) → HavePassed all old → new ≡ old → HavePassed all new
  same old new h e = subst (λ (u : Units). HavePassed all u) (sym e) h

  follow : (old new : Units) (acts : List (Option Record)) → HavePassed all old → AllFollow old acts new →
      NameUnits all (records_of acts) × HavePassed all new
  follow old new [] h e = (tt, same old new h e)
  follow old new (None ∷ acts) h (between, (bytes, n), rest) = follow between new acts (one_past old between bytes h n) rest
  follow old new (Some (Sent bytes) ∷ acts) h (between, n, rest) = follow between new acts (one_sent old between bytes h n) rest
  follow old new (Some (Received hint fate bytes) ∷ acts) h (between, (e, time, n), rest) =
      let on = follow between new acts (one_past old between bytes h n) rest in
      ((subst (λ (number : ℕ). IsUnit all number bytes) (sym e) (next_is old between bytes h n), on.0), on.1)
  follow old new (Some (Noise bytes) ∷ acts) h (between, e, rest) = follow between new acts (same old between h e) rest
  follow old new (Some (User event) ∷ acts) h (between, e, rest) = follow between new acts (same old between h e) rest

pub puts_name : (all : List (List ℕ)) (old new : Waiting) (p : Puts old new) → HavePassed all old.units → NameUnits all (records_of p.acts)
puts_name all old new p h = (follow all old.units new.units p.acts h p.follow).0

pub puts_passed : (all : List (List ℕ)) (old new : Waiting) → Puts old new → HavePassed all old.units → HavePassed all new.units
puts_passed all old new p h = (follow all old.units new.units p.acts h p.follow).1

pub none_passed : HavePassed [] nothing.units
none_passed = record { past = []; all_are = refl; count = refl }

pub other_passed : (all : List (List ℕ)) (unit : List ℕ) (w : Waiting) → HavePassed all w.units →
    HavePassed (all ++ unit ∷ []) (with_other unit w).units
other_passed all unit w h = record {
  past = h.past;
  all_are = ap (λ (us : List (List ℕ)). us ++ unit ∷ []) h.all_are ∙ append_assoc h.past w.units.other (unit ∷ []);
  count = h.count;
}

pub own_passed : (all : List (List ℕ)) (unit : List ℕ) (w : Waiting) → HavePassed all w.units → HavePassed all (with_own unit w).units
own_passed all unit w h = record { past = h.past; all_are = h.all_are; count = h.count }
