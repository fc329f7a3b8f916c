-- Words that a segment may have without queues it may have with them.
use Rattle.dna_queues.proofs.Prelude.{◌≡◌, ℕ, ◌+◌, ◌-◌, Bool, true, false, not, ◌&&◌, nat_le, max, cond, Option, Some, None, List, [], ◌∷◌, Result}
use Rattle.dna_queues.proofs.Prelude.{Ok, refl, sym, ap, ◌∙◌, AckWord, SegmentValue, LinkRefusal, piece_of, Sending, Late, with_gap, wider, REACH}
use Rattle.dna_queues.proofs.Prelude.{wire, distance, is_of_data, TrueSegments, Numbers, Named, NamedLate, highest_received, highest_given, named}
use Rattle.dna_queues.proofs.Prelude.{named_late, all_named, all_named_late, with_number, with_first, with_number_late, with_first_late, is_new}
use Rattle.dna_queues.proofs.Prelude.{sends_new, sends_again, segment_named, sends_segment, sends_late, new_late, went_on}

abbrev with_late : ℕ → Option Named → Option NamedLate
with_late gap None = None
with_late gap (Some names) = Some (record { names = names; gap = gap })

module _ (highest : ℕ) where
  first_late : (gap last word number : ℕ) → named false last highest word ≡ Some number → named_late gap last highest word ≡ Some number
  first_late gap last word number e = go (nat_le (last + distance (wire last) word) highest) e
    where
      go : (b : Bool) → cond b (Some (last + distance (wire last) word)) None ≡ Some number →
          cond b (Some (last + distance (wire last) word))
          (cond (nat_le (distance word (wire last)) gap && (nat_le (distance word (wire last)) REACH && nat_le (distance word (wire last)) last))
          (Some (last - distance word (wire last))) None) ≡ Some number
      go true e = e
      go false e = absurd cc

  pub record NamesLate (words : List AckWord) (gap last : ℕ) (names : Named) : Type 0 where
    pub left : ℕ
    pub is : all_named_late highest words gap last ≡ Some (record { names = names; gap = left })

  pub names_late : (words : List AckWord) (gap last : ℕ) (names : Named) → all_named false highest words last ≡ Some names →
      NamesLate words gap last names
  names_late [] gap last names e = record { left = gap; is = ap (with_late gap) e }
  names_late (word ∷ words) gap last names e =
      go (λ g next later f. names_late words g next later f) (is_of_data word.qualifier) refl e
    where
      Follows : Type 0
      Follows = (g next : ℕ) (later : Named) → all_named false highest words next ≡ Some later → NamesLate words g next later

      late : ℕ → Option NamedLate
      late n = all_named_late highest words (last - n) (max last n)

      of_number : (number : ℕ) (o : Option Named) → all_named false highest words (max last number) ≡ o → Follows →
          with_number number o ≡ Some names →
          named_late gap last highest word.number ≡ Some number →
          (left : ℕ) × (with_first_late (named_late gap last highest word.number) late ≡ Some (record { names = names; gap = left }))
      of_number number None all rest same first = absurd cc
      of_number number (Some later) all rest same first =
          let r = rest (last - number) (max last number) later all in (
            r.left,
            ap (λ (o : Option ℕ). with_first_late o late) first ∙ ap (with_number_late number) r.is ∙ ap (with_late r.left) same,
          )

      of_word : (o : Option ℕ) → named false last highest word.number ≡ o → Follows →
          with_first o (λ (n : ℕ). all_named false highest words (max last n)) ≡ Some names →
          (left : ℕ) × (with_first_late (named_late gap last highest word.number) late ≡ Some (record { names = names; gap = left }))
      of_word None first rest e = absurd cc
      of_word (Some number) first rest e = of_number number _ refl rest e (first_late gap last word.number number first)

      go : Follows → (b : Bool) → is_of_data word.qualifier ≡ b →
          cond b (with_first (named false last highest word.number) (λ (n : ℕ). all_named false highest words (max last n)))
          (all_named false highest words last) ≡ Some names → NamesLate (word ∷ words) gap last names
      go rest true judged e =
          let r = of_word _ refl rest e in
          record {
            left = r.0;
            is = ap (λ (b : Bool). cond b (with_first_late (named_late gap last highest word.number) late) (all_named_late highest words gap
                last)) judged
                ∙ r.1;
          }
      go rest false judged e =
          let r = rest gap last names e in
          record {
            left = r.left;
            is = ap (λ (b : Bool). cond b (with_first_late (named_late gap last highest word.number) late) (all_named_late highest words gap
                last)) judged
                ∙ r.is;
          }

pub record SendsToo (gap segsize : ℕ) (s : SegmentValue) (f : TrueSegments) (sent : Sending TrueSegments Numbers) : Type 0 where
  pub left : ℕ
  pub is : sends_late gap segsize s f ≡ Ok (record { sent = sent; gap = left })

pub sends_too : (gap segsize : ℕ) (s : SegmentValue) (f : TrueSegments) (sent : Sending TrueSegments Numbers) → sends_segment segsize s f ≡ Ok sent →
    SendsToo gap segsize s f sent
sends_too gap segsize s f sent e = go (is_new s f) refl e
  where
    by_new : Bool → Result (Late TrueSegments Numbers) LinkRefusal
    by_new b = cond b (new_late (all_named_late (highest_received f) s.acks gap f.last) segsize s f)
        (with_gap (λ sent. wider gap (went_on f sent.segments)) (sends_segment segsize s f))

    of_new : (o : Option Named) → all_named false (highest_received f) s.acks f.last ≡ o → is_new s f ≡ true →
        segment_named o segsize s f ≡ Ok sent → SendsToo gap segsize s f sent
    of_new None all new e = absurd cc
    of_new (Some names) all new e =
        let r = names_late (highest_received f) s.acks gap f.last names all in
        record {
          left = r.left;
          is = ap by_new new
              ∙ ap (λ (o : Option NamedLate). new_late o segsize s f) r.is
              ∙ ap (with_gap (λ x. r.left)) (sym (ap (λ (b : Bool). cond b (sends_new segsize (piece_of s) names f)
              (sends_again (distance s.number (wire (highest_given f))) (piece_of s) names f)) new) ∙ e);
        }

    go : (b : Bool) → is_new s f ≡ b → segment_named (all_named (not (is_new s f)) (highest_received f) s.acks f.last) segsize s f ≡ Ok sent →
        SendsToo gap segsize s f sent
    go true new e =
        of_new _ refl new (sym (ap (λ (b : Bool). segment_named (all_named (not b) (highest_received f) s.acks f.last) segsize s f) new) ∙ e)
    go false new e = record {
      left = wider gap (went_on f sent.segments);
      is = ap by_new new ∙ ap (with_gap (λ x. wider gap (went_on f x.segments))) e;
    }
