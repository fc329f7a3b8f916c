-- While units pass: one link alone has these addresses where one call passed, and what was sent of it under a number is one piece, or may be
-- acknowledged.
use Rattle.accusing_segments.proofs.Prelude.{◌≡◌, ℕ, ◌+◌, ◌≤◌, Bool, true, false, Option, Some, None, Ok, List, [], ◌∷◌, ◌++◌, sym, subst, ◌⊎◌, inl}
use Rattle.accusing_segments.proofs.Prelude.{inr, arith, MessageValue, reading, Sound, NspValue, body_of, Queues, Carried, Piece, content}
use Rattle.accusing_segments.proofs.Prelude.{WireLayers, LayersTag, Passed, Own, Other, node_machine, message_in}
use Rattle.accusing_segments.proofs.{RightLinks.Links, OneCall.IsDead}
use Rattle.accusing_segments.proofs.SentPieces.{Shown, Covered, Fits, covered_more, fits_more}
use Rattle.accusing_segments.proofs.Nodes.{IsRight, In, of_more, held_more, sends_right, right_later}
use Rattle.accusing_segments.proofs.Passing.{AsLinks, passed_more, gone_now, covered}
use Rattle.accusing_segments.proofs.OneCallNodes.{WasSent, InMessage, IsHeld, Agreed, was_more, sends_mine}
use Rattle.accusing_segments.proofs.SentUnits.{InOption, InUnit, SentIn, sent_stays, sent_now, sent_before, sent_same, to_message, message_is}
use Rattle.accusing_segments.proofs.SentUnits.{gone_sent, once_in, is_call, one_more, passed_calls, coming_calls, calls_own, calls_other}
use Rattle.accusing_segments.proofs.SentUnits.{coming_pushed}

module _ (queues : Queues) (own far : ℕ) where
  abbrev Sent : List Passed → Shown
  Sent passed = SentIn queues own far passed

  -- ---- what is so while units pass

  abbrev pub Now : List Passed → Links
  Now before = AsLinks true before

  abbrev pub has : Option ℕ → ℕ
  has None = 0
  has (Some i) = 1

  abbrev pub Agree : List Passed → Type 0
  Agree before = (n : ℕ) (p q : Piece) → Sent before n p → Sent before n q → (p ≡ q) ⊎ Covered (Now before own far).word n

  pub record IsSo (before : List Passed) (coming : List (List ℕ)) (s : WireLayers) : Type 0 where
    pub one : Option ℕ
    pub right : IsRight queues (Now before) s
    pub held : IsHeld queues own far (Sent before) (Now before) one s
    pub none : one ≡ None → (n : ℕ) (p : Piece) → Sent before n p → ⊥
    pub agree : Agree before
    pub calls : coming_calls queues own far coming + has one ≤ passed_calls queues own far before

  abbrev pub AreTwo : List Passed → Type 0
  AreTwo before = 2 ≤ passed_calls queues own far before

  words_more : (before : List Passed) (one : Passed) (n : ℕ) → (Now before own far).word n → (Now (before ++ one ∷ []) own far).word n
  words_more before one n word = (passed_more true before one own far).word n word

  held_later : (S T : Shown) (Qs Rs : Links) (one : Option ℕ) (s : WireLayers) → ((n : ℕ) (p : Piece) → S n p → T n p) →
      ((n : ℕ) (p : Piece) → T n p → S n p) → ((n : ℕ) → (Qs own far).word n → (Rs own far).word n) → IsHeld queues own far S Qs one s →
      IsHeld queues own far T Rs one s
  held_later S T Qs Rs one s more less words is = record {
    links = λ n l at. record {
      called = λ f c. let was = (is.links n l at).called f c in (was.0, λ i p sent. was.1 i p (less i p sent));
      able = λ f o. let was = (is.links n l at).able f o in (was.0, kept l was.1);
    };
    held = held_more (In (WasSent queues own far S)) (In (WasSent queues own far T))
        (λ body was. of_more (WasSent queues own far S) (WasSent queues own far T) (was_more queues own far S T more) (content body) was)
        s.station.variables.held is.held;
  }
    where
      kept : (l : _) → IsDead queues l ⊎ Fits S (Qs own far).word l.segments → IsDead queues l ⊎ Fits T (Rs own far).word l.segments
      kept l (inl dead) = inl dead
      kept l (inr fits) = inr (fits_more T (Qs own far).word (Rs own far).word words l.segments
          (record { small = fits.small; each = λ n p sent. fits.each n p (less n p sent) }))

  -- ---- a unit of the other side passes

  pub passes_so : (before : List Passed) (coming : List (List ℕ)) (unit : List ℕ) (s : WireLayers) → IsSo before coming s →
      IsSo (before ++ Other unit ∷ []) (coming ++ unit ∷ []) s
  passes_so before coming unit s is = record {
    one = is.one;
    right = right_later queues (Now before) (Now (before ++ Other unit ∷ [])) (passed_more true before (Other unit)) s is.right;
    held = held_later (Sent before) (Sent (before ++ Other unit ∷ [])) (Now before) (Now (before ++ Other unit ∷ [])) is.one s
        (sent_stays queues own far before (Other unit)) (sent_same queues own far before unit) (words_more before (Other unit)) is.held;
    none = λ e n p sent. is.none e n p (sent_same queues own far before unit n p sent);
    agree = λ n p q one two. go n p q (is.agree n p q (sent_same queues own far before unit n p one) (sent_same queues own far before unit n q two));
    calls =
        let pushed = coming_pushed queues own far coming unit in
        let now = calls_other queues own far before unit in
        let was = is.calls in
        more (is_call queues own far unit) pushed now was;
  }
    where
      go : (n : ℕ) (p q : Piece) → (p ≡ q) ⊎ Covered (Now before own far).word n →
          (p ≡ q) ⊎ Covered (Now (before ++ Other unit ∷ []) own far).word n
      go n p q (inl same) = inl same
      go n p q (inr covered) = inr (covered_more _ _ (words_more before (Other unit)) n covered)

      more : (b : Bool) → coming_calls queues own far (coming ++ unit ∷ []) ≡ one_more queues own far b (coming_calls queues own far coming) →
          passed_calls queues own far (before ++ Other unit ∷ []) ≡ one_more queues own far b (passed_calls queues own far before) →
          coming_calls queues own far coming + has is.one ≤ passed_calls queues own far before →
          coming_calls queues own far (coming ++ unit ∷ []) + has is.one ≤ passed_calls queues own far (before ++ Other unit ∷ [])
      more true a b l = omega (arith, a, b, l)
      more false a b l = omega (arith, a, b, l)

  -- ---- this side sends

  module _ (before : List Passed) (coming : List (List ℕ)) (unit : List ℕ) (s after : WireLayers) (m : MessageValue) (known : LayersTag)
      (read : reading unit ≡ Sound m) (made : (node_machine queues).sends s m ≡ Ok (after, known)) (is : IsSo before coming s) where
    abbrev then_passed : List Passed
    then_passed = before ++ Own unit ∷ []

    grows : (n : ℕ) (p : Piece) → Sent then_passed n p → Sent before n p ⊎ InMessage queues own far m n p
    grows n p sent = go (sent_before queues own far before unit n p sent)
      where
        go : Sent before n p ⊎ InUnit queues own far unit n p → Sent before n p ⊎ InMessage queues own far m n p
        go (inl was) = inl was
        go (inr this) = inr (to_message queues own far (reading unit) m read n p this)

    gone : (packet : Carried) → content (body_of m) ≡ Ok (Some packet) → WasSent queues own far (Sent then_passed) packet.message
    gone packet there = gone_sent queues own far (Sent then_passed) packet.message (λ n p this.
        sent_now queues own far before unit n p
        (subst (λ (o : Option NspValue). InOption queues own far o n p) (sym (message_is queues own far unit m packet read there)) this))

    all : IsHeld queues own far (Sent then_passed) (Now before) is.one after
        × ((n : ℕ) (p : Piece) → InMessage queues own far m n p →
        Sent before n p ⊎ Agreed queues own far (Sent before) (Now before) is.one n p)
    all = sends_mine queues own far (Sent before) (Sent then_passed) (Now before) is.one (λ m. tt) (sent_stays queues own far before (Own unit)) m
        grows gone
        s after known made is.right.links is.held

    abbrev Says : ℕ → Piece → Type 0
    Says n p = Sent before n p ⊎ Agreed queues own far (Sent before) (Now before) is.one n p

    says : (n : ℕ) (p : Piece) → InUnit queues own far unit n p → Says n p
    says n p this = all.1 n p (to_message queues own far (reading unit) m read n p this)

    later : (n : ℕ) (p q : Piece) → (p ≡ q) ⊎ Covered (Now before own far).word n → (p ≡ q) ⊎ Covered (Now then_passed own far).word n
    later n p q (inl same) = inl same
    later n p q (inr covered) = inr (covered_more _ _ (words_more before (Own unit)) n covered)

    turned : (n : ℕ) (p q : Piece) → (p ≡ q) ⊎ Covered (Now before own far).word n → (q ≡ p) ⊎ Covered (Now before own far).word n
    turned n p q (inl same) = inl (sym same)
    turned n p q (inr may) = inr may

    -- one that was sent before, and one in this unit
    old_new : (n : ℕ) (p q : Piece) → Sent before n p → Says n q → (p ≡ q) ⊎ Covered (Now before own far).word n
    old_new n p q sent (inl was) = is.agree n p q sent was
    old_new n p q sent (inr agreed) = agreed.1 p sent

    agree_then : Agree then_passed
    agree_then n p q one two = later n p q (go (sent_before queues own far before unit n p one) (sent_before queues own far before unit n q two))
      where
        go : Sent before n p ⊎ InUnit queues own far unit n p → Sent before n q ⊎ InUnit queues own far unit n q →
            (p ≡ q) ⊎ Covered (Now before own far).word n
        go (inl a) (inl b) = is.agree n p q a b
        go (inl a) (inr b) = old_new n p q a (says n q b)
        go (inr a) (inl b) = turned n q p (old_new n q p b (says n p a))
        go (inr a) (inr b) = inl (once_in queues own far (message_in unit) n p q a b)

    none_then : is.one ≡ None → (n : ℕ) (p : Piece) → Sent then_passed n p → ⊥
    none_then e n p sent = go (sent_before queues own far before unit n p sent)
      where
        new : Says n p → ⊥
        new (inl was) = is.none e n p was
        new (inr agreed) = let some = agreed.0.1 in absurd cc

        go : Sent before n p ⊎ InUnit queues own far unit n p → ⊥
        go (inl was) = is.none e n p was
        go (inr this) = new (says n p this)

    pub sends_so : IsSo then_passed coming after
    sends_so = record {
      one = is.one;
      right = (sends_right queues (Now before) (Now then_passed) (passed_more true before (Own unit)) s after m known made is.right
          (λ packet there. gone_now true before unit m packet read there)).0;
      held = held_later (Sent then_passed) (Sent then_passed) (Now before) (Now then_passed) is.one after (λ n p sent. sent) (λ n p sent. sent)
          (words_more before (Own unit)) all.0;
      none = none_then;
      agree = agree_then;
      calls = subst (λ (x : ℕ). coming_calls queues own far coming + has is.one ≤ x) (sym (calls_own queues own far before unit)) is.calls;
    }
