-- What a link has given says which acknowledgements a right other end sends.
use Rattle.std.proofs.Common.{◌≡◌, ℕ, Bool, true, false, ◌&&◌, ◌||◌, cond, Option, Some, None, List, [], ◌∷◌, length, drop, refl, sym, ap, ◌∙◌}
use Rattle.std.proofs.lemmas.List.{length-drop}
use Rattle.std.specs.Prelude.{nat_le}
use Rattle.std.specs.List.{slice_get}
use Rattle.dna_packet.specs.declared.ack_word.AckWord.{AckWord}
use Rattle.dna_station.specs.declared.link_refusal.LinkRefusal.TheVariants.{WrongAck}
use Rattle.dna_station.specs.declared.refusal.StepRefusal.{StepRefusal}
use Rattle.dna_station.specs.declared.refusal.StepRefusal.TheVariants.{Links as OfLinks}
use Rattle.dna_links.specs.declared.port.LinkTest.TheVariants.{ActedOn}
use Rattle.dna_links.specs.SegmentBook.{REACH, wire, distance, is_of_data}
use Rattle.dna_links.specs.Links.{LinkOf, number_of, on_link, at_number}
use Rattle.dna_links.specs.WireSegments.{LinkVariables, WireSegments}
use Rattle.dna_links.specs.WireLinks.{WireLinks}
use Rattle.dna_node.specs.Accusing.{may_acknowledge_all, wrong_words, wrong_acks}
use Rattle.nsp_link.specs.declared.given.Given.{Given}
use Rattle.nsp_link.specs.Given.{given_of, given_at, all_may_come}

module _ (many : Bool) where
  abbrev pub AgreesOn : List AckWord → LinkVariables → Type 0
  AgreesOn words k = all_may_come words (record { acknowledged = k.acknowledged; outstanding = length k.outstanding; gave_many = many })
      ≡ may_acknowledge_all many words k

  by_earlier : (word : AckWord) (words : List AckWord) (k : LinkVariables) (earlier : Bool) → is_of_data word.qualifier ≡ true →
      nat_le (distance k.acknowledged word.number) (length k.outstanding) ≡ false →
      (nat_le (distance word.number k.acknowledged) REACH && (many || nat_le (distance word.number k.acknowledged) k.acknowledged)) ≡ earlier →
      AgreesOn words k → AgreesOn (word ∷ words) k
  by_earlier word words k true of_data above earlier rest = rw (of_data, above, earlier) rest
  by_earlier word words k false of_data above earlier rest = rw (of_data, above, earlier) refl

  by_word : (word : AckWord) (words : List AckWord) (k : LinkVariables) (of_data above : Bool) → is_of_data word.qualifier ≡ of_data →
      nat_le (distance k.acknowledged word.number) (length k.outstanding) ≡ above → ((k : LinkVariables) → AgreesOn words k) →
      AgreesOn (word ∷ words) k
  by_word word words k false above is far rest = rw is (rest k)
  by_word word words k true true is far rest =
      let d = distance k.acknowledged word.number in
      rw (is, far) (ap (λ (n : ℕ). all_may_come words (record { acknowledged = wire word.number; outstanding = n; gave_many = many }))
      (sym (length-drop d k.outstanding))
      ∙ rest (record k { acknowledged = wire word.number; outstanding = drop d k.outstanding }))
  by_word word words k true false is far rest = by_earlier word words k _ is far refl (rest k)

  pub words_agree : (words : List AckWord) (k : LinkVariables) → AgreesOn words k
  words_agree [] k = refl
  words_agree (word ∷ words) k = by_word word words k _ _ refl refl (words_agree words)

-- what is told of what is given
abbrev pub wrong_given : List AckWord → Option Given → Option StepRefusal
wrong_given acks None = None
wrong_given acks (Some g) = cond (all_may_come acks g) None (Some (OfLinks WrongAck))

module _ (acks : List AckWord) (s : WireLinks) where
  by_link : (number : ℕ) (link : Option (LinkOf WireSegments)) → on_link number link None (λ number link. wrong_words acks link.segments)
      ≡ wrong_given acks (on_link number link None (λ number link. Some (given_of link.segments)))
  by_link number None = refl
  by_link number (Some link) =
      ap (λ (b : Bool). cond b None (Some (OfLinks WrongAck))) (sym (words_agree link.segments.gave_many acks link.segments.variables))

  by_number : (number : Option ℕ) → at_number s.links number None (λ number link. wrong_words acks link.segments)
      ≡ wrong_given acks (at_number s.links number None (λ number link. Some (given_of link.segments)))
  by_number None = refl
  by_number (Some number) = by_link number (slice_get s.links number)

  pub acks_given : (own far : ℕ) → wrong_acks own far acks s ≡ wrong_given acks (given_at own far s)
  acks_given own far = by_number (number_of (ActedOn own far) s)

  -- by what is told of the words
  pub wrong_by : (own far : ℕ) (o : Option Given) (g : Given) (b : Bool) → o ≡ given_at own far s → o ≡ Some g → b ≡ all_may_come acks g →
      cond b None (Some (OfLinks WrongAck)) ≡ wrong_acks own far acks s
  wrong_by own far o g b given there told =
      ap (λ (x : Bool). cond x None (Some (OfLinks WrongAck))) told
      ∙ sym (acks_given own far ∙ ap (wrong_given acks) (sym given ∙ there))
