-- What is known of the links of a node by the words that it sent and the CIs and CCs that passed, and how that stays so.
use Rattle.accusing_links.proofs.Prelude.{◌≡◌, ℕ, ◌+◌, ◌≤◌, Bool, true, false, ◌&&◌, ◌||◌, ◌⊎◌, inl, inr, eqb, List, [], ◌∷◌, ◌++◌, refl, ap, arith}
use Rattle.accusing_links.proofs.Prelude.{subst, ◌∙◌, list_any, and_parts, eqb-true, eq-eqb, reading, AckWord, NspValue, DataSegment, LinkService}
use Rattle.accusing_links.proofs.Prelude.{DataAck, OtherDataAck, ConnectAck, NoOperation, ConnectInitiate, ConnectConfirm, DisconnectInitiate}
use Rattle.accusing_links.proofs.Prelude.{DisconnectConfirm, Queues, LinkOf, is_of_data, WireSegments, Passed, Own, Other, Shown, packet_in}
use Rattle.accusing_links.proofs.Prelude.{shown_by, is_word, said_in, call_of, bit, calls_of, sent_in, sent_of}
use Rattle.accusing_links.proofs.{Passing.or_same, FarLinks.NoneTo, FarLinks.OneTo, FollowSends.Says, FollowSaid.IsAtLeast, FollowSaid.AreAtLeast}
use Rattle.accusing_links.proofs.AllFollow.{AreFollowed, none_followed, one_followed, known_followed}
use Rattle.accusing_links.proofs.FollowSteps.{IsPlain, IsConnect, not_both}

-- ---- what was sent

module _ (of : ℕ → NspValue → Shown) where
  pub sent_own : (passed : List Passed) (unit : List ℕ) (a b c : ℕ) →
      sent_of of (passed ++ Own unit ∷ []) a b c ≡ (sent_in of (reading unit) a b c || sent_of of passed a b c)
  sent_own [] unit a b c = refl
  sent_own (Own first ∷ passed) unit a b c = or_same (sent_in of (reading first) a b c) _ _ _ (sent_own passed unit a b c)
  sent_own (Other first ∷ passed) unit a b c = sent_own passed unit a b c

  pub sent_other : (passed : List Passed) (unit : List ℕ) (a b c : ℕ) → sent_of of (passed ++ Other unit ∷ []) a b c ≡ sent_of of passed a b c
  sent_other [] unit a b c = refl
  sent_other (Own first ∷ passed) unit a b c = ap (λ (x : Bool). sent_in of (reading first) a b c || x) (sent_other passed unit a b c)
  sent_other (Other first ∷ passed) unit a b c = sent_other passed unit a b c

-- ---- calls

pub calls_own : (passed : List Passed) (unit : List ℕ) (far : ℕ) → calls_of (passed ++ Own unit ∷ []) far ≡ calls_of passed far
calls_own [] unit far = refl
calls_own (Own first ∷ passed) unit far = calls_own passed unit far
calls_own (Other first ∷ passed) unit far =
    ap (λ (x : ℕ). bit (shown_by call_of (packet_in (reading first)) 0 0 far) + x) (calls_own passed unit far)

pub calls_other : (passed : List Passed) (unit : List ℕ) (far : ℕ) →
    calls_of (passed ++ Other unit ∷ []) far ≡ bit (shown_by call_of (packet_in (reading unit)) 0 0 far) + calls_of passed far
calls_other [] unit far = refl
calls_other (Own first ∷ passed) unit far = calls_other passed unit far
calls_other (Other first ∷ passed) unit far =
    let e = calls_other passed unit far in
    let one = bit (shown_by call_of (packet_in (reading first)) 0 0 far) in
    let two = bit (shown_by call_of (packet_in (reading unit)) 0 0 far) in
    ap (λ (x : ℕ). one + x) e ∙ turned one two (calls_of passed far)
  where
    turned : (a b c : ℕ) → a + (b + c) ≡ b + (a + c)
    turned a b c = omega arith

-- of units that are coming
abbrev pub calls_in : List (List ℕ) → (far : ℕ) → ℕ
calls_in [] far = 0
calls_in (unit ∷ units) far = bit (shown_by call_of (packet_in (reading unit)) 0 0 far) + calls_in units far

pub calls_pushed : (units : List (List ℕ)) (unit : List ℕ) (far : ℕ) →
    calls_in (units ++ unit ∷ []) far ≡ bit (shown_by call_of (packet_in (reading unit)) 0 0 far) + calls_in units far
calls_pushed [] unit far = refl
calls_pushed (first ∷ units) unit far =
    let e = calls_pushed units unit far in
    let one = bit (shown_by call_of (packet_in (reading first)) 0 0 far) in
    let two = bit (shown_by call_of (packet_in (reading unit)) 0 0 far) in
    ap (λ (x : ℕ). one + x) e ∙ turned one two (calls_in units far)
  where
    turned : (a b c : ℕ) → a + (b + c) ≡ b + (a + c)
    turned a b c = omega arith

pub calls_behind : (lost : List (List ℕ)) (unit : List ℕ) (later : List (List ℕ)) (far : ℕ) →
    bit (shown_by call_of (packet_in (reading unit)) 0 0 far) + calls_in later far ≤ calls_in (lost ++ unit ∷ later) far
calls_behind [] unit later far = omega arith
calls_behind (first ∷ lost) unit later far = let l = calls_behind lost unit later far in omega (arith, l)

-- ---- what a message says

module _ (own far : ℕ) (X : List AckWord → Type 0) where
  -- what holds of the words of a message of this link
  pub words_of : (m : NspValue) (number : ℕ) → said_in m own far number ≡ true → Says own far X m →
      (words : List AckWord) × (list_any (is_word number) words ≡ true) × X words
  words_of (DataSegment s) number e says =
      let one = and_parts (eqb s.srcaddr own) (eqb s.dstaddr far && list_any (is_word number) s.acks) e in
      let two = and_parts (eqb s.dstaddr far) (list_any (is_word number) s.acks) one.1 in
      (s.acks, two.1, says (eqb-true s.srcaddr own one.0) (eqb-true s.dstaddr far two.0))
  words_of (DataAck dst src acks) number e says =
      let one = and_parts (eqb src own) (eqb dst far && list_any (is_word number) acks) e in
      let two = and_parts (eqb dst far) (list_any (is_word number) acks) one.1 in
      (acks, two.1, says (eqb-true src own one.0) (eqb-true dst far two.0))
  words_of (LinkService interrupt dst src rest) number e says = absurd cc
  words_of (OtherDataAck dst src rest) number e says = absurd cc
  words_of (ConnectAck dst) number e says = absurd cc
  words_of (NoOperation rest) number e says = absurd cc
  words_of (ConnectInitiate retransmitted src services info segsize user_data) number e says = absurd cc
  words_of (ConnectConfirm dst src services info segsize user_data) number e says = absurd cc
  words_of (DisconnectInitiate dst src reason user_data) number e says = absurd cc
  words_of (DisconnectConfirm dst src reason) number e says = absurd cc

module _ (queues : Queues) (own far : ℕ) (Q : ℕ → Type 0) (links : List (LinkOf WireSegments)) where
  pub one_of_words : (words : List AckWord) (number : ℕ) → list_any (is_word number) words ≡ true → AreAtLeast queues own far Q links words →
      IsAtLeast queues own far Q links number
  one_of_words [] number e are = absurd cc
  one_of_words (word ∷ words) number e are = go (is_word number word) refl e (λ f. one_of_words words number f are.1)
    where
      go : (b : Bool) → is_word number word ≡ b → (b || list_any (is_word number) words) ≡ true →
          (list_any (is_word number) words ≡ true → IsAtLeast queues own far Q links number) → IsAtLeast queues own far Q links number
      go true this f rest =
          let parts = and_parts (is_of_data word.qualifier) (eqb word.number number) this in
          subst (IsAtLeast queues own far Q links) (eqb-true word.number number parts.1) (are.0 parts.0)
      go false this f rest = rest f

-- ---- a CI or a CC

differs : (src far : ℕ) → eqb src far ≡ false → src ≡ far → ⊥
differs src far e same = not_both (eqb src far) (eq-eqb src far same) e

pub call_plain : (far : ℕ) (m : NspValue) → call_of m 0 0 far ≡ false → IsPlain far m
call_plain far (ConnectInitiate retransmitted src services info segsize user_data) e = differs src far e
call_plain far (ConnectConfirm dst src services info segsize user_data) e = differs src far e
call_plain far (DataSegment s) e = tt
call_plain far (DataAck dst src acks) e = tt
call_plain far (LinkService interrupt dst src rest) e = tt
call_plain far (OtherDataAck dst src rest) e = tt
call_plain far (ConnectAck dst) e = tt
call_plain far (NoOperation rest) e = tt
call_plain far (DisconnectInitiate dst src reason user_data) e = tt
call_plain far (DisconnectConfirm dst src reason) e = tt

pub call_connect : (far : ℕ) (m : NspValue) → call_of m 0 0 far ≡ true → IsConnect m
call_connect far (ConnectInitiate retransmitted src services info segsize user_data) e = tt
call_connect far (ConnectConfirm dst src services info segsize user_data) e = tt
call_connect far (DataSegment s) e = absurd cc
call_connect far (DataAck dst src acks) e = absurd cc
call_connect far (LinkService interrupt dst src rest) e = absurd cc
call_connect far (OtherDataAck dst src rest) e = absurd cc
call_connect far (ConnectAck dst) e = absurd cc
call_connect far (NoOperation rest) e = absurd cc
call_connect far (DisconnectInitiate dst src reason user_data) e = absurd cc
call_connect far (DisconnectConfirm dst src reason) e = absurd cc

-- ---- the links

module _ (queues : Queues) (own far : ℕ) (Q : ℕ → Type 0) where
  -- each number that was said
  abbrev pub AllSaid : (ℕ → Bool) → List (LinkOf WireSegments) → Type 0
  AllSaid said links = (number : ℕ) → said number ≡ true → IsAtLeast queues own far Q links number

  -- no CI and no CC came yet that joins a link to the far address
  pub record IsBefore (said : ℕ → Bool) (links : List (LinkOf WireSegments)) : Type 0 where
    pub none : NoneTo far links
    pub silent : (number : ℕ) → said number ≡ true → ⊥

  -- one came, and no more is coming
  pub record IsAfterCall (calls coming : ℕ) (said : ℕ → Bool) (links : List (LinkOf WireSegments)) : Type 0 where
    pub came : 1 ≤ calls
    pub last : coming ≡ 0
    pub one : OneTo far links
    pub all : AllSaid said links

  abbrev pub IsPhase : (calls coming : ℕ) → (ℕ → Bool) → List (LinkOf WireSegments) → Type 0
  IsPhase calls coming said links = IsBefore said links ⊎ IsAfterCall calls coming said links

  abbrev pub Follow : List (LinkOf WireSegments) → List (LinkOf WireSegments) → Type 0
  Follow links later = (least : ℕ) → AreFollowed queues own far least Q links later

  pub said_follows : (links later : List (LinkOf WireSegments)) (number : ℕ) → Follow links later → IsAtLeast queues own far Q links number →
      IsAtLeast queues own far Q later number
  said_follows links later number are is = record {
    for = is.for;
    same = is.same;
    known = known_followed queues own far is.for Q links later (are is.for) is.known;
  }

  -- links that follow, with nothing more said, and no more coming
  pub phase_follows : (calls coming rest : ℕ) (said more : ℕ → Bool) (links later : List (LinkOf WireSegments)) → rest ≤ coming →
      ((number : ℕ) → more number ≡ true → said number ≡ true) → Follow links later → IsPhase calls coming said links →
      IsPhase calls rest more later
  phase_follows calls coming rest said more links later less same are (inl is) =
      inl (record { none = none_followed queues own far 0 Q links later (are 0) is.none; silent = λ n e. is.silent n (same n e) })
  phase_follows calls coming rest said more links later less same are (inr is) = inr (record {
    came = is.came;
    last = let l = is.last in omega (arith, less, l);
    one = one_followed queues own far 0 Q links later (are 0) is.one;
    all = λ n e. said_follows links later n are (is.all n (same n e));
  })
