-- What holds of numbered messages and of both sides is kept: by what a side sends, by what it meets, and by a new name.
use Rattle.std.proofs.Common.{◌≡◌, ℕ, zero, suc, ◌+◌, ◌<◌, ◌≤◌, ◌⊎◌, inl, inr, Some, List, [], ◌∷◌, ◌++◌, length, drop, refl, sym, ap, ◌∙◌, subst}
use Rattle.std.proofs.Common.{arith, length-append, zero-add}
use Rattle.std.specs.Prelude.{slice_get}
use Rattle.std.proofs.lemmas.Option.{slice_get_within, same_Some}
use Rattle.two_nodes.proofs.Order.{slice_get-append}
use Rattle.two_nodes.proofs.Numbered.{Limits, Numbers, Numbered, IsLawful, IsBefore, IsUpTo, Source, ReceivedFrom, AcknowledgedFrom, AreNumbered}
use Rattle.two_nodes.proofs.Numbered.{IsPresent}

-- an item behind the first n
pub slice_get-drop : {X : Type 0} (n k : ℕ) (xs : List X) → slice_get (drop n xs) k ≡ slice_get xs (n + k)
slice_get-drop zero k xs = ap (slice_get xs) (sym (zero-add k))
slice_get-drop (suc n) k [] = refl
slice_get-drop (suc n) k (x ∷ xs) =
    let e : suc (n + k) ≡ suc n + k = omega arith in slice_get-drop n k xs ∙ ap (slice_get (x ∷ xs)) e

-- an item of a list that grew by one is an earlier one or the new one
pub at_pushed : {X : Type 0} (xs : List X) (x y : X) (i : ℕ) → slice_get (xs ++ x ∷ []) i ≡ Some y → (slice_get xs i ≡ Some y) ⊎
    ((i ≡ length xs) × (x ≡ y))
at_pushed [] x y zero e = inr (refl, same_Some x y e)
at_pushed [] x y (suc i) e = absurd cc
at_pushed (z ∷ xs) x y zero e = inl e
at_pushed (z ∷ xs) x y (suc i) e = go (at_pushed xs x y i e)
  where
    go : (slice_get xs i ≡ Some y) ⊎ ((i ≡ length xs) × (x ≡ y)) → (slice_get xs i ≡ Some y) ⊎ ((suc i ≡ suc (length xs)) × (x ≡ y))
    go (inl f) = inl f
    go (inr f) = inr (ap suc f.0, f.1)

-- what holds of each item and of a new one behind them, holds of each item of the longer list
pub each_pushed : {X : Type 0} (xs : List X) (x : X) (P : ℕ → X → Type 0) → ((i : ℕ) (y : X) → slice_get xs i ≡ Some y → P i y) → P (length xs) x →
    (i : ℕ) (y : X) → slice_get (xs ++ x ∷ []) i ≡ Some y → P i y
each_pushed {X} xs x P of_each of_new i y at = go (at_pushed xs x y i at)
  where
    go : (slice_get xs i ≡ Some y) ⊎ ((i ≡ length xs) × (x ≡ y)) → P i y
    go (inl e) = of_each i y e
    go (inr e) = subst (λ (z : X). P i z) e.1 (subst (λ (n : ℕ). P n x) (sym e.0) of_new)

-- and so of any two of them, the earlier one first
pub pairs_pushed : {X : Type 0} (xs : List X) (x : X) (R : X → X → Type 0) →
    ((i j : ℕ) (y z : X) → i < j → slice_get xs i ≡ Some y → slice_get xs j ≡ Some z → R y z) → ((i : ℕ) (y : X) → slice_get xs i ≡ Some y → R y x) →
    (i j : ℕ) (y z : X) → i < j → slice_get (xs ++ x ∷ []) i ≡ Some y → slice_get (xs ++ x ∷ []) j ≡ Some z → R y z
pairs_pushed {X} xs x R of_each of_new i j y z less at_i at_j = go (at_pushed xs x y i at_i) (at_pushed xs x z j at_j)
  where
    go : (slice_get xs i ≡ Some y) ⊎ ((i ≡ length xs) × (x ≡ y)) → (slice_get xs j ≡ Some z) ⊎ ((j ≡ length xs) × (x ≡ z)) → R y z
    go (inl p) (inl q) = of_each i j y z less p q
    go (inl p) (inr q) = subst (λ (w : X). R y w) q.1 (of_new i y p)
    go (inr p) (inl q) = let w = slice_get_within xs j z q in let e = p.0 in absurd (omega arith)
    go (inr p) (inr q) = let e = p.0 in let f = q.0 in absurd (omega arith)

module _ {U : Type 0} (view : U → Numbered) (l : Limits) where
  -- ---- what is known of a side stays so, beside more messages of the other or a further front

  module _ (other more : List U) (still : (k : ℕ) (u : U) → slice_get other k ≡ Some u → slice_get more k ≡ Some u)
      (below below' : ℕ) (further : below ≤ below') (now : Numbers) where
    source_still : (says : Numbered → Type 0) → Source view other now.partner below says → Source view more now.partner below' says
    source_still says s = record {
      place = s.place;
      unit = s.unit;
      earlier = let e = s.earlier in omega arith;
      there = still s.place s.unit s.there;
      is_partner = s.is_partner;
      says_so = s.says_so;
    }

    received_still : ReceivedFrom view other below now → ReceivedFrom view more below' now
    received_still (inl e) = inl e
    received_still (inr s) = inr (source_still _ s)

    acknowledged_still : AcknowledgedFrom view other below now → AcknowledgedFrom view more below' now
    acknowledged_still (inl e) = inl e
    acknowledged_still (inr s) = inr (source_still _ s)

  -- ---- the other side sends a message

  module _ (other : List U) (x : U) where
    grown : (k : ℕ) (u : U) → slice_get other k ≡ Some u → slice_get (other ++ x ∷ []) k ≡ Some u
    grown k u at = slice_get-append other (x ∷ []) k u at

    longer : length other ≤ length (other ++ x ∷ [])
    longer = let e = length-append other (x ∷ []) in omega arith

    pub numbered_beside : (own : List U) → AreNumbered view l own other → AreNumbered view l own (other ++ x ∷ [])
    numbered_beside own a = record {
      rising = a.rising;
      lawful = a.lawful;
      received_from = λ i m at. received_still other (other ++ x ∷ []) grown (length other) (length (other ++ x ∷ [])) longer (view m).sender
          (a.received_from i m at);
      acknowledged_from = λ i m at. acknowledged_still other (other ++ x ∷ []) grown (length other) (length (other ++ x ∷ [])) longer (view m).sender
          (a.acknowledged_from i m at);
    }

    pub present_beside : (own : List U) (front : ℕ) (now : Numbers) → IsPresent view l own other front now →
        IsPresent view l own (other ++ x ∷ []) front now
    present_beside own front now p = record {
      up_to = p.up_to;
      few = p.few;
      received_from = received_still other (other ++ x ∷ []) grown front front (omega arith) now p.received_from;
      acknowledged_from = acknowledged_still other (other ++ x ∷ []) grown front front (omega arith) now p.acknowledged_from;
    }

  -- ---- a side sends a message

  -- the message, of a side that then has given this many and has this last acknowledgement
  pub record IsSending (now : Numbers) (given last : ℕ) (m : Numbered) : Type 0 where
    pub sender : m.sender ≡ record now { given = given; last = last }
    pub last_before : m.last_before ≡ now.last
    pub lawful : IsLawful l m
    pub more_given : now.given ≤ given
    pub more_last : now.last ≤ last

  module _ (own other : List U) (front : ℕ) (now : Numbers) (given last : ℕ) (u : U) (messages : AreNumbered view l own other)
      (present : IsPresent view l own other front now) (met : front ≤ length other) (sending : IsSending now given last (view u)) where
    before_new : (i : ℕ) (m : U) → slice_get own i ≡ Some m → (view m).sender.name ≡ (view u).sender.name → IsBefore (view m) (view u)
    before_new i m at same =
        let p = present.up_to i m at (same ∙ ap (λ (n : Numbers). n.name) sending.sender) in
        let g = ap (λ (n : Numbers). n.given) sending.sender in
        let r = ap (λ (n : Numbers). n.received) sending.sender in
        let b = sending.last_before in let pg = p.given in let pr = p.received in let pl = p.last in let mg = sending.more_given in
        record { given = omega arith; received = omega arith; last = omega arith }

    -- what the side knows of the other, its message knows
    received_said : ReceivedFrom view other (length other) (view u).sender
    received_said = subst (λ (n : Numbers). ReceivedFrom view other (length other) n) (sym sending.sender)
        (received_still other other (λ k u at. at) front (length other) met now present.received_from)

    acknowledged_said : AcknowledgedFrom view other (length other) (view u).sender
    acknowledged_said = subst (λ (n : Numbers). AcknowledgedFrom view other (length other) n) (sym sending.sender)
        (acknowledged_still other other (λ k u at. at) front (length other) met now present.acknowledged_from)

    pub numbered_sending : AreNumbered view l (own ++ u ∷ []) other
    numbered_sending = record {
      rising = pairs_pushed own u (λ (m n : U). (view m).sender.name ≡ (view n).sender.name → IsBefore (view m) (view n)) messages.rising before_new;
      lawful = each_pushed own u (λ i (m : U). IsLawful l (view m)) messages.lawful sending.lawful;
      received_from = each_pushed own u (λ i (m : U). ReceivedFrom view other (length other) (view m).sender) messages.received_from received_said;
      acknowledged_from = each_pushed own u (λ i (m : U). AcknowledgedFrom view other (length other) (view m).sender) messages.acknowledged_from
          acknowledged_said;
    }

    earlier_up_to : (i : ℕ) (m : U) → slice_get own i ≡ Some m → (view m).sender.name ≡ now.name →
        IsUpTo (view m).sender (record now { given = given; last = last })
    earlier_up_to i m at same =
        let q = present.up_to i m at same in let g = q.given in let r = q.received in let t = q.last in let mg = sending.more_given in
        let ml = sending.more_last in
        record { given = omega arith; received = r; last = omega arith }

    pub present_sending : IsPresent view l (own ++ u ∷ []) other front (record now { given = given; last = last })
    present_sending = record {
      up_to = each_pushed own u (λ i (m : U). (view m).sender.name ≡ now.name → IsUpTo (view m).sender (record now { given = given; last = last }))
          earlier_up_to
          (λ same. subst (λ (n : Numbers). IsUpTo n (record now { given = given; last = last })) (sym sending.sender)
          (record { given = omega arith; received = omega arith; last = omega arith }));
      few = let f = sending.lawful.few in let g = ap (λ (n : Numbers). n.given) sending.sender in
          let a = ap (λ (n : Numbers). n.acknowledged) sending.sender in omega arith;
      received_from = present.received_from;
      acknowledged_from = present.acknowledged_from;
    }

  -- ---- a side meets a message of its partner, and moves its front

  module _ (own other : List U) (front front' : ℕ) (now : Numbers) (present : IsPresent view l own other front now) (further : front ≤ front') where
    received_further : ReceivedFrom view other front' now
    received_further = received_still other other (λ k u at. at) front front' further now present.received_from

    acknowledged_further : AcknowledgedFrom view other front' now
    acknowledged_further = acknowledged_still other other (λ k u at. at) front front' further now present.acknowledged_from

    -- nothing of its numbers changes
    pub present_further : IsPresent view l own other front' now
    present_further = record { up_to = present.up_to; few = present.few; received_from = received_further; acknowledged_from = acknowledged_further }

    -- the message is its partner's, and what is new of its numbers the message says
    module _ (k : ℕ) (u : U) (there : slice_get other k ≡ Some u) (passed : k < front') (from : now.partner ≡ Some (view u).sender.name) where
      source_now : (says : Numbered → Type 0) → says (view u) → Source view other now.partner front' says
      source_now says so = record { place = k; unit = u; earlier = passed; there = there; is_partner = from; says_so = so }

      pub present_received : (received last : ℕ) → now.received ≤ received → now.last ≤ last → received ≤ (view u).sender.given →
          IsPresent view l own other front' (record now { received = received; last = last })
      present_received received last more_received more_last fits = record {
        up_to = λ i m at same.
            let q = present.up_to i m at same in let r = q.received in let t = q.last in
            record { given = q.given; received = omega arith; last = omega arith };
        few = present.few;
        received_from = inr (source_now _ fits);
        acknowledged_from = acknowledged_further;
      }

      pub present_acknowledged : (acknowledged : ℕ) → now.acknowledged ≤ acknowledged → acknowledged ≤ (view u).sender.last →
          acknowledged ≤ (view u).sender.received → IsPresent view l own other front' (record now { acknowledged = acknowledged })
      present_acknowledged acknowledged more fits_last fits_received = record {
        up_to = λ i m at same. let q = present.up_to i m at same in record { given = q.given; received = q.received; last = q.last };
        few = let f = present.few in omega arith;
        received_from = received_further;
        acknowledged_from = inr (source_now _ (fits_last, fits_received));
      }

  -- ---- a side with no numbers yet

  -- under a name that none of its messages has, or under the name that it has, with any partner
  pub present_new : (own other : List U) (front : ℕ) (now : Numbers) → now.received ≡ 0 → now.acknowledged ≡ 0 →
      now.given ≤ now.acknowledged + l.within →
      ((i : ℕ) (m : U) → slice_get own i ≡ Some m → (view m).sender.name ≡ now.name → IsUpTo (view m).sender now) →
      IsPresent view l own other front now
  present_new own other front now received acknowledged few up_to =
      record { up_to = up_to; few = few; received_from = inl received; acknowledged_from = inl acknowledged }

  pub none_numbered : (other : List U) → AreNumbered view l [] other
  none_numbered other = record {
    rising = λ i j m n less at_i at_j same. absurd cc;
    lawful = λ i m at. absurd cc;
    received_from = λ i m at. absurd cc;
    acknowledged_from = λ i m at. absurd cc;
  }
