-- What is claimed of a unit that this side sends: no word of a message of words alone goes back.
use Rattle.accusing_links.proofs.Prelude.{◌≡◌, ℕ, ◌≤◌, Bool, true, false, not, eqb, Option, Some, None, Result, Ok, List, [], ◌∷◌, refl, sym, subst}
use Rattle.accusing_links.proofs.Prelude.{◌∙◌, ◌⊎◌, inl, inr, list_any, and_parts, and_from, eq-eqb, MessageValue, Data, AckWord, NspValue, DataAck}
use Rattle.accusing_links.proofs.Prelude.{IsInRange, StepRefusal, body_of, Queues, is_of_data, Carried, WireLinks, content, content_in_range}
use Rattle.accusing_links.proofs.Prelude.{Passed, shown_in, is_word, alone_in, sent_of, calls_of, told, is_back}
use Rattle.accusing_links.proofs.{Sends.AreOnward, Numbered.Bears, AllFollow.AreKnown, FollowSteps.not_both, FollowSends.Says}
use Rattle.accusing_links.proofs.{FollowSends.SaysAlone, FollowSaid.IsAtLeast, Follows.or_first, Follows.or_second}
use Rattle.accusing_links.proofs.Onwards.{Q, said, Gone, none_back, or_cases, not_false}

module _ (queues : Queues) (own far : ℕ) where
  -- no word of a message alone goes back
  abbrev NoBack : List Passed → ℕ → List AckWord → Type 0
  NoBack before num acks = calls_of before far ≤ 1 → list_any (is_back (told before) num own far) acks ≡ false

  abbrev pub Claim : List Passed → MessageValue → Type 0
  Claim before (Data flags resp num body) =
      (packet : Carried) → content body ≡ Ok (Some packet) → SaysAlone own far (NoBack before num) packet.message
  Claim before m = Unit {0}

  -- a unit that goes again

  record IsBackWord (before : List Passed) (num : ℕ) (acks : List AckWord) : Type 0 where
    word : AckWord
    among : list_any (is_word word.number) acks ≡ true
    back : is_back (told before) num own far word ≡ true

  back_word : (before : List Passed) (num : ℕ) (acks : List AckWord) → list_any (is_back (told before) num own far) acks ≡ true →
      IsBackWord before num acks
  back_word before num [] e = absurd cc
  back_word before num (word ∷ acks) e = go (or_cases _ _ e) (back_word before num acks)
    where
      go : (is_back (told before) num own far word ≡ true) ⊎ (list_any (is_back (told before) num own far) acks ≡ true) →
          (list_any (is_back (told before) num own far) acks ≡ true → IsBackWord before num acks) → IsBackWord before num (word ∷ acks)
      go (inl this) rest = record {
        word = word;
        among = or_first (is_word word.number word) _
            (and_from (is_of_data word.qualifier) (eqb word.number word.number) (and_parts (is_of_data word.qualifier) _ this).0
            (eq-eqb word.number word.number refl));
        back = this;
      }
      go (inr later) rest =
          let is = rest later in
          record { word = is.word; among = or_second (is_word is.word.number word) _ is.among; back = is.back }

  none_again : (before : List Passed) (num : ℕ) (body : List ℕ) (dst src : ℕ) (acks : List AckWord) (packet_dst packet_src : ℕ) →
      Gone before num body →
      content body ≡ Ok (Some (record { dst = packet_dst; src = packet_src; message = DataAck dst src acks })) → src ≡ own →
      list_any (is_back (told before) num own far) acks ≡ false
  none_again before num body dst src acks packet_dst packet_src gone is of_own = go (list_any (is_back (told before) num own far) acks) refl
    where
      never : list_any (is_back (told before) num own far) acks ≡ true → ⊥
      never e =
          let found = back_word before num acks e in
          let parts = and_parts (is_of_data found.word.qualifier) _ found.back in
          let alone = (and_parts (not (sent_of alone_in before num own found.word.number)) _ parts.1).0 in
          let shown : alone_in num (DataAck dst src acks) num own found.word.number ≡ true =
          and_from (eqb num num) _ (eq-eqb num num refl) (and_from (eqb src own) _ (eq-eqb src own of_own) found.among) in
          let was = gone alone_in num own found.word.number
          (subst (λ (x : Result (Option Carried) StepRefusal). shown_in (alone_in num) x num own found.word.number ≡ true) (sym is) shown) in
          not_both (sent_of alone_in before num own found.word.number) was (not_false (sent_of alone_in before num own found.word.number) alone)

      go : (b : Bool) → list_any (is_back (told before) num own far) acks ≡ b → b ≡ false
      go true e = absurd (never e)
      go false e = refl

  again_alone : (before : List Passed) (num : ℕ) (body : List ℕ) (m : NspValue) (packet_dst packet_src : ℕ) → Gone before num body →
      content body ≡ Ok (Some (record { dst = packet_dst; src = packet_src; message = m })) → SaysAlone own far (NoBack before num) m
  again_alone before num body (DataAck dst src acks) packet_dst packet_src gone is =
      λ e f few. none_again before num body dst src acks packet_dst packet_src gone is e
  again_alone before num body m packet_dst packet_src gone is = tt

  pub again_claim : (before : List Passed) (m : MessageValue) → Bears (Gone before) m → Claim before m
  again_claim before (Data flags resp num body) gone =
      λ packet is. again_alone before num body packet.message packet.dst packet.src gone is
  again_claim before m gone = tt

  -- a packet without a message of the links

  pub nothing_claim : (before : List Passed) (m : MessageValue) → content (body_of m) ≡ Ok None → Claim before m
  nothing_claim before (Data flags resp num body) none = λ packet is. absurd (never packet (sym none ∙ is))
    where
      never : (packet : Carried) → ◌≡◌ {A = Result (Option Carried) StepRefusal} (Ok None) (Ok (Some packet)) → ⊥
      never packet e = absurd cc
  nothing_claim before m none = tt

  -- a message that goes for the first time

  module _ (before : List Passed) (links : WireLinks) where
    abbrev pub Tells : NspValue → Type 0
    Tells m =
        Says own far (λ words. ⊥) m
        ⊎ (((n : ℕ) → said own far before n ≡ true → IsAtLeast queues own far (Q own far before) links.links n)
        × ((least : ℕ) → AreKnown queues own far least (Q own far before) links.links → SaysAlone own far (AreOnward least (Q own far before)) m))

    first_alone : (num : ℕ) (m : NspValue) → IsInRange m → (calls_of before far ≤ 1 → Tells m) → SaysAlone own far (NoBack before num) m
    first_alone num (DataAck dst src acks) small tells = λ e f few. go e f (tells few)
      where
        go : src ≡ own → dst ≡ far → Tells (DataAck dst src acks) → list_any (is_back (told before) num own far) acks ≡ false
        go e f (inl never) = absurd (never e f)
        go e f (inr is) = none_back queues own far before num links acks small.0 is.0 (λ least known. is.1 least known e f)
    first_alone num m small tells = tt

    pub first_claim : (m : MessageValue) (packet : Carried) → content (body_of m) ≡ Ok (Some packet) →
        (calls_of before far ≤ 1 → Tells packet.message) →
        Claim before m
    first_claim (Data flags resp num body) packet is tells = λ other at.
        let same : other ≡ packet = one_packet other packet (sym at ∙ is) in
        subst (λ (x : Carried). SaysAlone own far (NoBack before num) x.message) (sym same)
        (first_alone num packet.message (content_in_range body packet is) tells)
      where
        one_packet : (x y : Carried) → ◌≡◌ {A = Result (Option Carried) StepRefusal} (Ok (Some x)) (Ok (Some y)) → x ≡ y
        one_packet x y e = cc
    first_claim m packet is tells = tt
