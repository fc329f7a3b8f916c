-- A packet that a side first sends, or composes and never sends, leaves both sides' links sound.
use Rattle.std.proofs.Common.{◌≡◌, ℕ, ◌+◌, ◌≤◌, true, false, ◌⊎◌, inl, inr, Option, Some, None, List, [], ◌∷◌, ◌++◌, length}
use Rattle.std.proofs.Common.{refl, sym, ap, ◌∙◌, subst, arith, append-nil, length-append}
use Rattle.std.specs.Prelude.{slice_get}
use Rattle.std.proofs.lemmas.Bool.{cases_eq}
use Rattle.std.proofs.lemmas.Option.{same_Some}
use Rattle.dna_packet.specs.declared.ack_word.AckWord.{AckWord}
use Rattle.dna_packet.specs.Nsp.{NspValue, SegmentValue, DataSegment, DataAck}
use Rattle.dna_links.specs.Queues.{ended}
use Rattle.dna_links.specs.LookUps.{is_calling}
use Rattle.dna_links.specs.Segmentation.{Piece, in_order}
use Rattle.dna_links.specs.Links.{LinkOf, Carried, LinkTruth, changed, with_segments}
use Rattle.dna_links.specs.Sending.{Sent}
use Rattle.dna_links.specs.inner.Forms.{truth_of}
use Rattle.dna_links.specs.TrueSegments.{TrueSegments, Numbers, empty, highest_given, true_segments}
use Rattle.dna_links.specs.TrueSegments as segments
use Rattle.dna_links.specs.TrueLinks.{Links}
use Rattle.dna_links.specs.Runs.{SentMessage, LinkSide, sends}
use Rattle.dna_links.specs.Delivery.{HeldFrom}
use Rattle.two_nodes.proofs.Numbered.{AcksFrom, IsPresent}
use Rattle.two_nodes.proofs.Numbered as numbered
use Rattle.two_nodes.proofs.NumberedSteps.{IsSending, numbered_sending, present_sending, at_pushed}
use Rattle.dna_links.proofs.Tables.MessageOutcomes.{has_numbers}
use Rattle.dna_links.proofs.Runs.Loose.{SentDid, OfNone, Stays, EndsCalled, Segment, Acks}
use Rattle.dna_links.proofs.Tables.Words.{limits, AreWords}
use Rattle.dna_links.proofs.Runs.Sends.{SendsFrom, other_sent, IsTrueSegment}
use Rattle.dna_links.proofs.Runs.Ends.{name_of, nobody, numbers_of, view, Grows, SegmentTold, IsTold, told_grown, IsSoundEnd}
use Rattle.dna_links.proofs.Runs.Ends.{end_aside, end_without, present_aside}
use Rattle.dna_links.proofs.Runs.Sides.{set_same, at_set, grows_same, grows_set, IsSoundSide, side_grown}
use Rattle.dna_links.proofs.Runs.Sides.{side_beside, side_changed}

-- both sides after a step of one
pub record StaySound (left other : LinkSide) : Type 0 where
  pub side : IsSoundSide left other
  pub beside : IsSoundSide other left

-- what is true of a message of no link
abbrev no_truth : LinkTruth Numbers
no_truth = record { tag = record { link = None; partner = None }; known = segments.sends_other empty }

same_numbers : (name : ℕ) (partner : Option ℕ) (g h r s a b l m : ℕ) → g ≡ h → r ≡ s → a ≡ b → l ≡ m →
    ◌≡◌ {A = numbered.Numbers} (record { name = name; partner = partner; given = g; received = r; acknowledged = a; last = l })
    (record { name = name; partner = partner; given = h; received = s; acknowledged = b; last = m })
same_numbers name partner g h r s a b l m e f p q = cc

-- and says nothing of any number
says_nothing : IsSending view limits nobody 0 0 (view None)
says_nothing = record {
  sender = refl;
  last_before = refl;
  lawful = record { few = omega arith; number = tt; acks = tt };
  more_given = omega arith;
  more_last = omega arith;
}

module _ (own other : LinkSide) (h : IsSoundSide own other) (theirs : IsSoundSide other own) where
  -- by no link
  module _ (x : Option SentMessage) (sending : IsSending view limits nobody 0 0 (view x)) (named : (view x).sender.name ≡ 0)
      (told : (u : SentMessage) → x ≡ Some u → IsTold own.links.links u) where
    pub nobody_sent : StaySound (sends own own.links x) other
    nobody_sent = record {
      side = record {
        met = h.met;
        messages = numbered_sending view limits own.sent other.sent own.front nobody 0 0 x h.messages h.nobody h.met sending;
        nobody = present_sending view limits own.sent other.sent own.front nobody 0 0 x h.messages h.nobody h.met sending;
        told = λ k u at. go k u (at_pushed own.sent x (Some u) k at);
        ends = λ i l at. end_aside own.sent other.sent own.front other.links.links i l x (λ e. let n = named in absurd (omega arith)) (h.ends i l at);
      };
      beside = side_beside other own own.links x (grows_same own.links.links) theirs;
    }
      where
        go : (k : ℕ) (u : SentMessage) → (slice_get own.sent k ≡ Some (Some u)) ⊎ ((k ≡ length own.sent) × (x ≡ Some u)) → IsTold own.links.links u
        go k u (inl at) = h.told k u at
        go k u (inr e) = told u e.1

  pub none_sent : StaySound (sends own own.links None) other
  none_sent = nobody_sent None says_nothing refl (λ u e. absurd cc)

  -- a message without numbers says nothing of them
  nothing_told : (packet : Carried) (truth : LinkTruth Numbers) (links : List (LinkOf TrueSegments)) → has_numbers packet.message ≡ false →
      (s : SegmentValue) → packet.message ≡ DataSegment s → SegmentTold links (record { packet = packet; truth = truth }) s
  nothing_told packet truth links none s e = let t = ap has_numbers e in absurd cc

  no_words : (packet : Carried) (truth : LinkTruth Numbers) → has_numbers packet.message ≡ false → (dst src : ℕ) (acks : List AckWord) →
      packet.message ≡ DataAck dst src acks → AreWords acks truth.known.acknowledgements
  no_words packet truth none dst src acks e = let t = ap has_numbers e in absurd cc

  -- by this link, whose segments become these
  module _ (packet : Carried) (known : Numbers) (number : ℕ) (link left : LinkOf TrueSegments) (links : Links)
      (there : slice_get own.links.links number ≡ Some link) (s : SendsFrom link.segments left.segments known)
      (same_partner : left.partner ≡ link.partner)
      (calling : is_calling left.port.phase ≡ true → is_calling link.port.phase ≡ true) (grows : Grows own.links.links links.links)
      (here : slice_get links.links number ≡ Some left)
      (only : (i : ℕ) (l : LinkOf TrueSegments) → slice_get links.links i ≡ Some l → ((i ≡ number) × (left ≡ l)) ⊎
      ((i ≡ number → ⊥) × (slice_get own.links.links i ≡ Some l)))
      (segment : (x : SegmentValue) → packet.message ≡ DataSegment x → IsTrueSegment x left.segments.given known)
      (words : (dst src : ℕ) (acks : List AckWord) → packet.message ≡ DataAck dst src acks → AreWords acks known.acknowledgements) where
    abbrev unit : SentMessage
    unit = record { packet = packet; truth = truth_of true_segments number link known }

    e : IsSoundEnd own.sent other.sent own.front other.links.links number link
    e = h.ends number link there

    longer : highest_given link.segments ≤ highest_given left.segments
    longer = let g = ap length s.given in let l = length-append link.segments.given s.more in omega arith

    sending_is : IsSending view limits (numbers_of number link) (highest_given left.segments) left.segments.last (view (Some unit))
    sending_is = let t = s.tells in let few = s.sound.few in let given = t.given in let acked = t.acknowledged in let same = s.acknowledged in
        record {
          sender = same_numbers (number + 1) (name_of link.partner) _ _ _ _ _ _ _ _ t.given t.received t.acknowledged t.last;
          last_before = t.last_before;
          lawful = record {
            few = omega arith;
            number = s.number;
            acks = subst (λ (x : ℕ). AcksFrom limits x known.received known.acknowledgements) (sym t.last_before)
                (subst (λ (x : ℕ). AcksFrom limits link.segments.last x known.acknowledgements) (sym t.received) s.acks);
          };
          more_given = longer;
          more_last = s.more_last;
        }

    numbers_then : record (numbers_of number link) { given = highest_given left.segments; last = left.segments.last } ≡ numbers_of number left
    numbers_then =
        ap (λ (x : Option ℕ). record (numbers_of number link) { partner = name_of x; given = highest_given left.segments; last = left.segments.last })
        (sym same_partner)
        ∙ same_numbers (number + 1) (name_of left.partner) _ _ _ _ _ _ _ _ refl (ap in_order (sym s.received)) (sym s.acknowledged) refl

    end_then : IsSoundEnd (own.sent ++ Some unit ∷ []) other.sent own.front other.links.links number left
    end_then = record {
      segments = s.sound;
      present = subst (IsPresent view limits (own.sent ++ Some unit ∷ []) other.sent own.front) numbers_then
          (present_sending view limits own.sent other.sent own.front (numbers_of number link) (highest_given left.segments) left.segments.last
          (Some unit)
          h.messages e.present h.met sending_is);
      came = subst (λ (x : Option ℕ). numbered.ReceivedFrom view other.sent own.front
          (record (numbers_of number left) { partner = name_of x; received = length left.segments.received })) (sym same_partner)
          (subst (λ (x : List (Option Piece)). numbered.ReceivedFrom view other.sent own.front
          (record (numbers_of number link) { received = length x })) (sym s.received) e.came);
      calling = λ c. same_partner ∙ e.calling (calling c);
      held = subst (λ (x : Option ℕ). HeldFrom x left.segments.received other.links.links) (sym same_partner)
          (subst (λ (x : List (Option Piece)). HeldFrom link.partner x other.links.links) (sym s.received) e.held);
      none = λ p. s.acknowledged ∙ e.none (sym same_partner ∙ p);
    }

    told_then : IsTold links.links unit
    told_then = record {
      sender = λ n is. let same : number ≡ n = same_Some number n is in (left, ap (slice_get links.links) (sym same) ∙ here);
      at_most = s.at_most;
      segment = λ x is. record { number = number; link = left; is_of = refl; there = here; is_true = segment x is };
      words = words;
    }

    pub link_sent : StaySound (sends own links (Some unit)) other
    link_sent = record {
      side = record {
        met = h.met;
        messages =
            numbered_sending view limits own.sent other.sent own.front (numbers_of number link) (highest_given left.segments) left.segments.last
            (Some unit) h.messages e.present h.met sending_is;
        nobody = present_aside own.sent other.sent own.front nobody (Some unit) (λ n. absurd (omega arith)) h.nobody;
        told = λ k u at. go k u (at_pushed own.sent (Some unit) (Some u) k at);
        ends = λ i l at. end_now i l (only i l at);
      };
      beside = side_beside other own links (Some unit) grows theirs;
    }
      where
        go : (k : ℕ) (u : SentMessage) → (slice_get own.sent k ≡ Some (Some u)) ⊎ ((k ≡ length own.sent) × (Some unit ≡ Some u)) →
            IsTold links.links u
        go k u (inl at) = told_grown own.links.links links.links u grows (h.told k u at)
        go k u (inr p) = subst (IsTold links.links) (same_Some unit u p.1) told_then

        end_now : (i : ℕ) (l : LinkOf TrueSegments) → ((i ≡ number) × (left ≡ l)) ⊎ ((i ≡ number → ⊥) × (slice_get own.links.links i ≡ Some l)) →
            IsSoundEnd (own.sent ++ Some unit ∷ []) other.sent own.front other.links.links i l
        end_now i l (inl p) =
            subst (λ (j : ℕ). IsSoundEnd (own.sent ++ Some unit ∷ []) other.sent own.front other.links.links j l) (sym p.0)
            (subst (IsSoundEnd (own.sent ++ Some unit ∷ []) other.sent own.front other.links.links number) p.1 end_then)
        end_now i l (inr p) = end_aside own.sent other.sent own.front other.links.links i l (Some unit) (λ n. p.0 (omega arith)) (h.ends i l p.1)

  -- the link that is the same, or changed
  only_same : (number : ℕ) (link : LinkOf TrueSegments) → slice_get own.links.links number ≡ Some link → (i : ℕ) (l : LinkOf TrueSegments) →
      slice_get own.links.links i ≡ Some l → ((i ≡ number) × (link ≡ l)) ⊎ ((i ≡ number → ⊥) × (slice_get own.links.links i ≡ Some l))
  only_same number link there i l at = go (cases_eq i number)
    where
      go : (i ≡ number) ⊎ (i ≡ number → ⊥) → ((i ≡ number) × (link ≡ l)) ⊎ ((i ≡ number → ⊥) × (slice_get own.links.links i ≡ Some l))
      go (inl e) = inl (e, same_Some link l (sym there ∙ ap (slice_get own.links.links) (sym e) ∙ at))
      go (inr d) = inr (d, at)

  changed_sent : (packet : Carried) (known : Numbers) (number : ℕ) (link left : LinkOf TrueSegments) → slice_get own.links.links number ≡ Some link →
      SendsFrom link.segments left.segments known → left.partner ≡ link.partner →
      (is_calling left.port.phase ≡ true → is_calling link.port.phase ≡ true) →
      ((x : SegmentValue) → packet.message ≡ DataSegment x → IsTrueSegment x left.segments.given known) →
      ((dst src : ℕ) (acks : List AckWord) → packet.message ≡ DataAck dst src acks → AreWords acks known.acknowledgements) →
      StaySound
      (sends own (changed number left own.links) (Some (record { packet = packet; truth = truth_of true_segments number link known }))) other
  changed_sent packet known number link left there s same_partner calling segment words =
      link_sent packet known number link left (changed number left own.links) there s same_partner calling
      (grows_set own.links.links own.links.links number link left s.more (grows_same own.links.links) there s.given)
      (set_same own.links.links number link left there) (λ i l at. at_set own.links.links number i left l at) segment words

  pub message_sent : (packet : Carried) (made : Sent TrueSegments Numbers) → SentDid own.links packet.message made →
      StaySound (sends own made.links (Some (record { packet = packet; truth = made.truth }))) other
  message_sent packet made (OfNone none) =
      nobody_sent (Some (record { packet = packet; truth = no_truth }))
      says_nothing refl
      (λ u e. subst (IsTold own.links.links) (same_Some _ u e)
      (record {
        sender = λ n e. absurd cc;
        at_most = tt;
        segment = nothing_told packet no_truth own.links.links none;
        words =
            no_words packet no_truth none;
      }))
  message_sent packet made (Stays number link none there) =
      link_sent packet (segments.sends_other link.segments) number link link own.links there
      (other_sent link.segments (h.ends number link there).segments) refl (λ c. c) (grows_same own.links.links) there
      (only_same number link there)
      (λ x e. let t = ap has_numbers e in absurd cc) (no_words packet (truth_of true_segments number link (segments.sends_other link.segments)) none)
  message_sent packet made (EndsCalled far reason number link none is found) =
      changed_sent packet (segments.sends_other link.segments) number link (ended true_segments link) found.there
      (other_sent link.segments (h.ends number link found.there).segments) refl (λ c. absurd cc)
      (λ x e. let t = ap has_numbers e in absurd cc) (no_words packet (truth_of true_segments number link (segments.sends_other link.segments)) none)
  message_sent packet made (Segment segment number link sent is there goes) =
      let t = goes (h.ends number link there).segments in
      changed_sent packet sent.known number link (with_segments sent.segments link) there t.sends refl (λ c. c)
      (λ x e. let same : segment ≡ x = let f = sym is ∙ e in cc in
      subst (λ (y : SegmentValue). IsTrueSegment y sent.segments.given sent.known) same t.is_true)
      (λ dst src acks e. let f = sym is ∙ e in absurd cc)
  message_sent packet made (Acks dst src acks number link sent is there goes) =
      let t = goes (h.ends number link there).segments in
      changed_sent packet sent.known number link (with_segments sent.segments link) there t.sends refl (λ c. c)
      (λ x e. let f = sym is ∙ e in absurd cc)
      (λ d s a e. let same : acks ≡ a = let f = sym is ∙ e in cc in
      subst (λ (y : List AckWord). AreWords y sent.known.acknowledgements) same t.words_are)

  -- ---- a packet is composed, and never sent

  sent_grows : (m : NspValue) (made : Sent TrueSegments Numbers) → SentDid own.links m made → Grows own.links.links made.links.links
  sent_grows m made (OfNone none) = grows_same own.links.links
  sent_grows m made (Stays number link none there) = grows_same own.links.links
  sent_grows m made (EndsCalled far reason number link none is found) =
      grows_set own.links.links own.links.links number link (ended true_segments link) [] (grows_same own.links.links) found.there
      (sym (append-nil link.segments.given))
  sent_grows m made (Segment segment number link sent is there goes) =
      let t = (goes (h.ends number link there).segments).sends in
      grows_set own.links.links own.links.links number link (with_segments sent.segments link) t.more (grows_same own.links.links) there t.given
  sent_grows m made (Acks dst src acks number link sent is there goes) =
      let t = (goes (h.ends number link there).segments).sends in
      grows_set own.links.links own.links.links number link (with_segments sent.segments link) t.more (grows_same own.links.links) there t.given

  -- what holds with it in a place holds without it
  pub message_composed : (packet : Carried) (made : Sent TrueSegments Numbers) → SentDid own.links packet.message made →
      StaySound (record { links = made.links; sent = own.sent; front = own.front }) other
  message_composed packet made does =
      let s = message_sent packet made does in
      let grows = sent_grows packet.message made does in
      record {
        side = side_changed own other made.links grows h (λ i l at. end_without own.sent other.sent own.front other.links.links i l
            (Some (record { packet = packet; truth = made.truth })) (s.side.ends i l at));
        beside = side_grown other own made.links own.front grows theirs;
      }
