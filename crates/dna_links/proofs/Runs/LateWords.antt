-- What a segment is that a link with queues sends: as of one without, but for an older word in a new one.
use Rattle.std.proofs.Common.{◌≡◌, ℕ, ◌+◌, ◌-◌, ◌<◌, ◌≤◌, Bool, true, false, nat_le, max, cond, ◌⊎◌, inl, inr, Option, Some, None, List, [], ◌∷◌, Ok}
use Rattle.std.proofs.Common.{Err}
use Rattle.std.proofs.Common.{Result, refl, subst, arith, eqb-true}
use Rattle.dna_packet.specs.declared.ack_word.AckWord.{AckWord}
use Rattle.dna_packet.specs.Nsp.{SegmentValue}
use Rattle.dna_station.specs.declared.link_refusal.LinkRefusal.{LinkRefusal}
use Rattle.dna_links.specs.Segmentation.{piece_of}
use Rattle.dna_links.specs.SegmentBook.{Sending, Late, with_gap, wider, wire, distance, is_of_data}
use Rattle.dna_links.specs.TrueSegments.{TrueSegments, Numbers, Named, NamedLate, with_number_late, with_first_late, named_late, all_named_late}
use Rattle.dna_links.specs.TrueSegments.{highest_given, highest_received, is_new, sends_new, sends_segment, new_late, sends_late, went_on}
use Rattle.dna_links.proofs.Tables.Words.{AreNamed, named_one}
use Rattle.dna_links.proofs.Runs.Sends.{AreSoundSegments, SendsSegment, new_sent, segment_sent}

module _ (highest : ℕ) where
  first_late : (word : AckWord) (words : List AckWord) (gap last : ℕ) (late : NamedLate) → last ≤ highest → is_of_data word.qualifier ≡ true →
      ((further next : ℕ) (later : NamedLate) → next ≤ highest → all_named_late highest words further next ≡ Some later →
      AreNamed words next highest later.names) →
      (o : Option ℕ) → named_late gap last highest word.number ≡ o →
      with_first_late o (λ (number : ℕ). all_named_late highest words (last - number) (max last number)) ≡ Some late →
      AreNamed (word ∷ words) last highest late.names
  first_late word words gap last late l judged rest None e all = absurd cc
  first_late word words gap last late l judged rest (Some number) e all = go _ refl all
    where
      n : (last ≤ number + 2047) × (number ≤ highest) × (word.number < 4096 → wire number ≡ word.number)
      n = named_one (nat_le (distance word.number (wire last)) gap) last highest word.number number l e

      go : (o : Option NamedLate) → all_named_late highest words (last - number) (max last number) ≡ o → with_number_late number o ≡ Some late →
          AreNamed (word ∷ words) last highest late.names
      go None found same = absurd cc
      go (Some later) found same =
          let a = n.0 in let b = n.1 in
          let r = rest (last - number) (max last number) later (omega arith) found in
          let more = r.more in
          let is : record later { names = record later.names { numbers = number ∷ later.names.numbers } } ≡ late = cc in
          subst (λ (x : NamedLate). AreNamed (word ∷ words) last highest x.names) is (record {
            acks = (omega arith, omega arith, r.acks);
            more = omega arith;
            most = r.most;
            numbers = (omega arith, r.numbers);
            words = inr (judged, number, later.names.numbers, refl, n.2, r.words);
          })

  pub late_are : (words : List AckWord) (gap last : ℕ) (late : NamedLate) → last ≤ highest → all_named_late highest words gap last ≡ Some late →
      AreNamed words last highest late.names
  late_are [] gap last late l all =
      let is : record { names = record { numbers = []; last = last }; gap = gap } ≡ late = cc in
      subst (λ (x : NamedLate). AreNamed [] last highest x.names) is
      (record { acks = tt; more = omega arith; most = l; numbers = tt; words = refl })
  late_are (word ∷ words) gap last late l all =
      go (λ further next later m e. late_are words further next later m e) (is_of_data word.qualifier) refl all
    where
      go : ((further next : ℕ) (later : NamedLate) → next ≤ highest → all_named_late highest words further next ≡ Some later →
          AreNamed words next highest later.names) →
          (b : Bool) → is_of_data word.qualifier ≡ b →
          cond b (with_first_late (named_late gap last highest word.number)
          (λ (number : ℕ). all_named_late highest words (last - number) (max last number)))
          (all_named_late highest words gap last) ≡ Some late → AreNamed (word ∷ words) last highest late.names
      go rest true judged all = first_late word words gap last late l judged rest _ refl all
      go rest false judged all = let r = rest gap last late l all in
          record { acks = r.acks; more = r.more; most = r.most; numbers = r.numbers; words = inl (judged, r.words) }

-- what is sent, beside the gap
gap_kept : (gap : Sending TrueSegments Numbers → ℕ) (r : Result (Sending TrueSegments Numbers) LinkRefusal) (late : Late TrueSegments Numbers) →
    with_gap gap r ≡ Ok late → r ≡ Ok late.sent
gap_kept gap (Ok sent) late e = cc
gap_kept gap (Err refusal) late e = absurd cc

pub late_sent : (f : TrueSegments) (o : AreSoundSegments f) (gap segsize : ℕ) (s : SegmentValue) (late : Late TrueSegments Numbers) →
    sends_late gap segsize s f ≡ Ok late → SendsSegment f o s late.sent
late_sent f o gap segsize s late e = go (is_new s f) refl e
  where
    named : (n : Option NamedLate) → all_named_late (highest_received f) s.acks gap f.last ≡ n → s.number ≡ wire (highest_given f + 1) →
        new_late n segsize s f ≡ Ok late → SendsSegment f o s late.sent
    named None all spelled e = absurd cc
    named (Some names) all spelled e =
        new_sent f o s late.sent names.names (late_are (highest_received f) s.acks gap f.last names o.last all) segsize spelled
        (gap_kept (λ sent. names.gap) (sends_new segsize (piece_of s) names.names f) late e)

    go : (b : Bool) → is_new s f ≡ b →
        cond b (new_late (all_named_late (highest_received f) s.acks gap f.last) segsize s f)
        (with_gap (λ sent. wider gap (went_on f sent.segments)) (sends_segment segsize s f)) ≡ Ok late →
        SendsSegment f o s late.sent
    go true new e = named _ refl (eqb-true s.number (wire (highest_given f + 1)) new) e
    go false new e =
        segment_sent f o segsize s late.sent (gap_kept (λ sent. wider gap (went_on f sent.segments)) (sends_segment segsize s f) late e)
