-- What a boot makes of links: none is found any more.
use Rattle.std.proofs.Common.{◌≡◌, ℕ, zero, suc, ◌≤◌, Bool, true, false, ◌||◌, cond, Option, Some, None, List, [], ◌∷◌, ◌++◌, refl, sym, ap, ◌∙◌}
use Rattle.std.proofs.Common.{length, map, set, take, drop, ◌+◌, ◌<◌, subst, arith, nat_cmp, nat_eq}
use Rattle.std.specs.BTreeMap.{get}
use Rattle.std.specs.HashMap as hashed
use Rattle.dna_links.specs.declared.port.Phase.{Phase}
use Rattle.dna_links.specs.declared.port.Phase.TheVariants.{Calling, Called, Confirming, Running, Disconnecting, Ended}
use Rattle.dna_links.specs.declared.queue.Queues.{Queues}
use Rattle.dna_links.specs.declared.queue.Queues.TheVariants.{Without, With}
use Rattle.dna_links.specs.LookUps.{is_calling, is_in, is_live, takes_messages}
use Rattle.dna_links.specs.Links.{LinkOf, in_phase}
use Rattle.dna_links.specs.Queues.{booted_link, call_of, drops, drops_segments, in_use, lets_go, port_of_waiting, settled}
use Rattle.dna_links.specs.WireSegments.{WireSegments, wire_segments, empty}
use Rattle.nsp_link.specs.declared.index.Index.{Index}
use Rattle.nsp_link.specs.inner.Index.{begun_from, counted, lives_to, look_at, own_of, times, used_by, waits}
use Rattle.nsp_link.specs.inner.Indexing.{AreDead, AreIndexed, IsDead}
use Rattle.nsp_link.specs.inner.Queue.{forgotten_link, keeps}
use Rattle.nsp_link.proofs.Dead.{dead_more, dead_set}
use Rattle.nsp_link.proofs.KeptInUse.{messages_keep}
use Rattle.nsp_link.proofs.Requeued.{waiting_keeps}
use Rattle.nsp_link.proofs.Used.{used_if}

-- it has ended, and its address is given to nobody
pub booted_is : (queues : Queues) (l : LinkOf WireSegments) → booted_link wire_segments queues l ≡ forgotten_link queues (in_phase Ended l)
booted_is Without l = refl
booted_is With l = refl

pub ruleset booting = (waiting_keeps)

-- ---- links that are dead already, and those that are now

kept_so : (l : LinkOf WireSegments) → IsDead l → record l { port = record l.port { phase = Ended; own = None }; segments = empty } ≡ l
kept_so l dead =
    ap (λ (p : Phase). record l { port = record l.port { phase = p; own = None }; segments = empty }) (sym dead.over)
    ∙ ap (λ (o : Option ℕ). record l { port = record l.port { own = o }; segments = empty }) (sym dead.unowned)
    ∙ ap (λ (f : WireSegments). record l { segments = f }) (sym dead.bare)

booted_same : (queues : Queues) (l : LinkOf WireSegments) → IsDead l → booted_link wire_segments queues l ≡ l
booted_same Without l dead = kept_so l dead
booted_same With l dead =
    ap (λ (w : Option Phase). record l {
      port = record l.port { phase = Ended; own = None };
      segments = empty;
      queue = record l.queue { waits = w };
    }) (sym dead.settled)
    ∙ kept_so l dead

pub booted_dead : (queues : Queues) (l m : LinkOf WireSegments) → m ≡ booted_link wire_segments queues l → m.queue.waits ≡ None → IsDead m
booted_dead Without l m is settled = record {
  over = ap (λ (k : LinkOf WireSegments). k.port.phase) is;
  unowned = ap (λ (k : LinkOf WireSegments). k.port.own) is;
  bare = ap (λ (k : LinkOf WireSegments). k.segments) is;
  settled = settled;
}
booted_dead With l m is settled = record {
  over = ap (λ (k : LinkOf WireSegments). k.port.phase) is;
  unowned = ap (λ (k : LinkOf WireSegments). k.port.own) is;
  bare = ap (λ (k : LinkOf WireSegments). k.segments) is;
  settled = settled;
}

-- a boot goes over the others alone
pub booted_from : (queues : Queues) (b : ℕ) (xs : List (LinkOf WireSegments)) → AreDead b xs →
    xs ≡ map (booted_link wire_segments queues) (take b xs) ++ drop b xs
booted_from queues zero xs are = refl
booted_from queues (suc b) [] are = refl
booted_from queues (suc b) (l ∷ xs) are =
    ap (λ (k : LinkOf WireSegments). k ∷ xs) (sym (booted_same queues l (are.each 0 l (omega arith) refl)))
    ∙ ap (λ (ys : List (LinkOf WireSegments)). booted_link wire_segments queues l ∷ ys) (booted_from queues b xs rest)
  where
    few_rest : b ≤ length xs
    few_rest = let before = are.few in omega arith

    rest : AreDead b xs
    rest = record { few = few_rest; each = λ k link low there. are.each (suc k) link (omega arith) there }

-- how far a boot is
over_length : (queues : Queues) (n : ℕ) (xs : List (LinkOf WireSegments)) →
    length (map (booted_link wire_segments queues) (take n xs) ++ drop n xs) ≡ length xs
over_length queues zero xs = refl
over_length queues (suc n) [] = refl
over_length queues (suc n) (l ∷ xs) = ap suc (over_length queues n xs)

pub within_booted : (queues : Queues) (n : ℕ) (xs ys : List (LinkOf WireSegments)) →
    ys ≡ map (booted_link wire_segments queues) (take n xs) ++ drop n xs → n < length xs → n < length ys
within_booted queues n xs ys is low =
    let same = ap (λ (zs : List (LinkOf WireSegments)). length zs) is ∙ over_length queues n xs in
    omega arith

module _ (d b n : ℕ) (xs : List (LinkOf WireSegments)) (m : LinkOf WireSegments) (are : AreDead b xs) where
  -- the next one is dead as well
  pub more_dead : d ≡ n + 1 → b ≡ n → n < length xs → IsDead m → AreDead d (set xs n m)
  more_dead is here within dead =
      subst (λ (q : ℕ). AreDead q (set xs n m)) (ap (λ (q : ℕ). q + 1) here ∙ sym is)
      (subst (λ (q : ℕ). AreDead (b + 1) (set xs q m)) here (dead_more b xs m are (omega arith) dead))

  pub still_dead : d ≡ b → b ≤ n → AreDead d (set xs n m)
  still_dead is upto = subst (λ (q : ℕ). AreDead q (set xs n m)) (sym is) (dead_set b xs m are n (λ low. absurd (omega arith)))

-- ---- no link is found

module _ (queues : Queues) where
  abbrev over : LinkOf WireSegments → LinkOf WireSegments
  over l = booted_link wire_segments queues l

  module _ (look : LinkOf WireSegments → Option ℕ) (none : (l : LinkOf WireSegments) → look (over l) ≡ None) where
    none_seen : (links : List (LinkOf WireSegments)) (n : ℕ) → look_at look (map over links) n ≡ None
    none_seen [] zero = refl
    none_seen [] (suc n) = refl
    none_seen (l ∷ links) zero = none l
    none_seen (l ∷ links) (suc n) = none_seen links n

  module _ (p : LinkOf WireSegments → Bool) (none : (l : LinkOf WireSegments) → p (over l) ≡ false) where
    none_counted : (links : List (LinkOf WireSegments)) → counted p (map over links) ≡ 0
    none_counted [] = refl
    none_counted (l ∷ links) =
        ap (λ (b : Bool). cond b (suc (counted p (map over links))) (counted p (map over links))) (none l) ∙ none_counted links

own_none : (queues : Queues) (l : LinkOf WireSegments) → own_of (booted_link wire_segments queues l) ≡ None
own_none Without l = refl
own_none With l = refl

begun_none : (queues : Queues) (l : LinkOf WireSegments) → begun_from (booted_link wire_segments queues l) ≡ None
begun_none Without l = refl
begun_none With l = refl

lives_none : (queues : Queues) (far : ℕ) (l : LinkOf WireSegments) → lives_to far (booted_link wire_segments queues l) ≡ false
lives_none Without far l = refl
lives_none With far l = refl

waits_none : (queues : Queues) (l : LinkOf WireSegments) → waits (booted_link wire_segments queues l) ≡ false
waits_none Without l = refl
waits_none With l = refl

used_none : (queues : Queues) → queues ≡ With → (far : ℕ) (l : LinkOf WireSegments) → used_by far (booted_link wire_segments queues l) ≡ false
used_none Without with far l = absurd (cc)
used_none With with far l = refl

some_none : {A : Type 0} (o : Option ℕ) (n : ℕ) → o ≡ None → o ≡ Some n → A
some_none o n none some = absurd (cc)

pub booted_index : (queues : Queues) (links : List (LinkOf WireSegments)) (index : Index) →
    ((q : ℕ) → get nat_cmp index.holders q ≡ None) → ((q : ℕ) → get nat_cmp index.callers q ≡ None) →
    ((q : ℕ) → times (hashed.get nat_eq index.reached q) ≡ 0) → index.waiting ≡ 0 →
    (index.counts ≡ true → (q : ℕ) → times (hashed.get nat_eq index.in_use q) ≡ 0) → (index.counts ≡ true → queues ≡ With) →
    AreIndexed (map (booted_link wire_segments queues) links) index
booted_index queues links index holders callers reached waiting used kind = record {
  found = record {
    has = λ number own e. some_none _ own (none_seen queues own_of (own_none queues) links number) e;
    holds = λ own number e. some_none _ number (holders own) e;
    calls = λ number far e. some_none _ far (none_seen queues begun_from (begun_none queues) links number) e;
    reaches = λ far. reached far ∙ sym (none_counted queues (lives_to far) (lives_none queues far) links);
    waits = none_wait;
    few = few_all;
  };
  used = used_if index.counts _ _ (λ on far. used on far ∙ sym (none_counted queues (used_by far) (used_none queues (kind on) far) links));
} where
  none_wait : counted waits (map (booted_link wire_segments queues) links) ≤ index.waiting
  none_wait = let none = none_counted queues waits (waits_none queues) links in omega arith

  few_all : index.waiting ≤ length (map (booted_link wire_segments queues) links)
  few_all = omega arith

-- ---- a call that is given up

not_both : {A : Type 0} (phase : Phase) → is_in Ended phase ≡ true → is_calling phase ≡ true → A
not_both Calling over calling = absurd (cc)
not_both Called over calling = absurd (cc)
not_both Confirming over calling = absurd (cc)
not_both Running over calling = absurd (cc)
not_both Disconnecting over calling = absurd (cc)
not_both Ended over calling = absurd (cc)

is_ended : (phase : Phase) → is_in Ended phase ≡ true → phase ≡ Ended
is_ended Calling over = absurd (cc)
is_ended Called over = absurd (cc)
is_ended Confirming over = absurd (cc)
is_ended Running over = absurd (cc)
is_ended Disconnecting over = absurd (cc)
is_ended Ended over = refl

pub still_lives : (phase : Phase) → is_in Ended phase ≡ false → is_live phase ≡ true
still_lives Calling over = refl
still_lives Called over = refl
still_lives Confirming over = refl
still_lives Running over = refl
still_lives Disconnecting over = refl
still_lives Ended over = absurd (cc)

pub calling_takes : (phase : Phase) → is_calling phase ≡ true → takes_messages phase ≡ true
calling_takes Calling calling = refl
calling_takes Called calling = absurd (cc)
calling_takes Confirming calling = absurd (cc)
calling_takes Running calling = absurd (cc)
calling_takes Disconnecting calling = absurd (cc)
calling_takes Ended calling = absurd (cc)

-- one that has ended, of which this waits no more
abbrev settled_as : (before now : Bool) → Phase → LinkOf WireSegments → LinkOf WireSegments
settled_as before now phase link = record link {
  port = record link.port { phase = phase };
  segments = lets_go wire_segments before now link.segments;
  queue = record link.queue { waits = None };
}

given_by : (w : Option Phase) (l : LinkOf WireSegments) → l.port.phase ≡ Ended → l.port.opened ≡ false → keeps l.port.phase l.queue ≡ true →
    is_calling (port_of_waiting w l.port).phase ≡ true → settled wire_segments w l ≡ drops wire_segments With l
given_by None l over came kept calling = not_both l.port.phase (ap (is_in Ended) over) calling
given_by (Some phase) l over came kept calling =
    ap (λ (b : Bool). settled_as b (is_live l.port.phase || false) l.port.phase l) kept
    ∙ ap (λ (p : Phase). settled_as true (is_live p || false) p l) over
    ∙ ap (λ (opened : Bool). record l {
      port = record l.port { phase = Ended };
      segments = drops_segments wire_segments opened l.segments;
      queue = record l.queue { waits = call_of opened };
    }) (sym came)

-- with queues a call that has ended and was not opened here, which there is none of, would be settled: nothing of it would wait any more
pub given_up : (queues : Queues) (l : LinkOf WireSegments) → is_in Ended l.port.phase ≡ true → l.port.opened ≡ false →
    is_calling (in_use queues l).phase ≡ true →
    settled wire_segments l.queue.waits l ≡ drops wire_segments queues l
given_up Without l over came calling = not_both l.port.phase over calling
given_up With l over came calling =
    given_by l.queue.waits l (is_ended l.port.phase over) came (messages_keep With l (calling_takes (in_use With l).phase calling)) calling

-- only with queues a link that has ended is in Calling, in use
pub calls_with : (queues : Queues) (l : LinkOf WireSegments) → is_in Ended l.port.phase ≡ true → is_calling (in_use queues l).phase ≡ true →
    is_calling (in_use With l).phase ≡ true
calls_with Without l over calling = not_both l.port.phase over calling
calls_with With l over calling = calling

pub given_up_with : (queues : Queues) (l : LinkOf WireSegments) → is_in Ended l.port.phase ≡ true → is_calling (in_use queues l).phase ≡ true →
    drops wire_segments With l ≡ drops wire_segments queues l
given_up_with Without l over calling = not_both l.port.phase over calling
given_up_with With l over calling = refl
