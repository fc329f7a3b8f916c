-- A message of its partner comes to a link: its words acknowledge, and its segment is held.
use Rattle.std.proofs.Common.{◌≡◌, ℕ, zero, suc, ◌+◌, ◌-◌, ◌≤◌, true, max, ◌⊎◌, inl, inr, Option, Some, None, List, [], ◌∷◌, length, fold, refl, sym}
use Rattle.std.proofs.Common.{ap, ◌∙◌, subst, arith, eqb-true}
use Rattle.std.specs.Prelude.{slice_get}
use Rattle.std.proofs.lemmas.Bool.{and_parts}
use Rattle.std.proofs.lemmas.Option.{same_Some}
use Rattle.dna_packet.specs.Nsp.{SegmentValue}
use Rattle.dna_links.specs.declared.tag.LinkTag.{LinkTag}
use Rattle.dna_links.specs.declared.port.Phase.TheVariants.{Running}
use Rattle.dna_links.specs.LookUps.{is_at}
use Rattle.dna_links.specs.Segmentation.{Piece, piece_of, in_order, hold}
use Rattle.dna_links.specs.Links.{LinkOf, in_phase, with_segments}
use Rattle.dna_links.specs.LinkBook.{are_same}
use Rattle.dna_links.specs.Arriving.{is_of_pair}
use Rattle.dna_links.specs.TrueSegments.{TrueSegments, highest_given, highest_received, acknowledged_through}
use Rattle.dna_links.specs.TrueSegments as segments
use Rattle.dna_links.specs.Runs.{SentMessage}
use Rattle.dna_links.specs.Delivery.{HeldFrom}
use Rattle.two_nodes.proofs.Numbered.{AcksFrom, IsGiven, IsLawful, IsNear, AcknowledgedFrom, AreNumbered, IsPresent, near}
use Rattle.two_nodes.proofs.NumberedSteps.{present_further, present_acknowledged, present_received}
use Rattle.dna_links.proofs.Tables.Words.{limits, AreAtMost, Acknowledges, through}
use Rattle.dna_links.proofs.Runs.Pieces.{passed_held}
use Rattle.dna_links.proofs.Runs.Sends.{number_in, within_all}
use Rattle.dna_links.proofs.Runs.Ends.{name_of, sender_name, numbers_of, view, SegmentTold, IsTold, IsSoundEnd, present_raised, end_further}

-- a message of this pair of links
pub record IsOfPair (i : ℕ) (partner : Option ℕ) (tag : LinkTag) : Type 0 where
  pub sender : ℕ
  pub partner_is : partner ≡ Some sender
  pub from : tag.link ≡ Some sender
  pub to : tag.partner ≡ Some i

pub of_pair_is : (i : ℕ) (partner : Option ℕ) (tag : LinkTag) → is_of_pair i partner tag ≡ true → IsOfPair i partner tag
of_pair_is i partner tag e = go partner tag.link tag.partner refl refl refl (and_parts (are_same partner tag.link) (is_at tag.partner i) e)
  where
    go : (p a b : Option ℕ) → partner ≡ p → tag.link ≡ a → tag.partner ≡ b → (are_same p a ≡ true) × (is_at b i ≡ true) → IsOfPair i partner tag
    go None a b p e f t = let x = t.0 in absurd cc
    go (Some n) None b p e f t = let x = t.0 in absurd cc
    go (Some n) (Some m) None p e f t = let x = t.1 in absurd cc
    go (Some n) (Some m) (Some k) p e f t =
        record { sender = m; partner_is = p ∙ ap Some (let q = eqb-true m n t.0 in sym q); from = e; to = f ∙ ap Some (eqb-true k i t.1) }

acks_below : (last most : ℕ) (acks : List ℕ) → AcksFrom limits last most acks → AreAtMost most acks
acks_below last most [] fits = tt
acks_below last most (ack ∷ acks) fits = (fits.1, acks_below (max last ack) most acks fits.2)

number_below : (n given : ℕ) → 1 ≤ n → IsGiven limits (number_in n) given → n ≤ given
number_below zero given some g = absurd (omega arith)
number_below (suc n) given some g = g.0

-- a piece is held at its place
pub record HeldAt (n : ℕ) (p : Piece) (before after : List (Option Piece)) : Type 0 where
  pub longer : length before ≤ length after
  pub most : length after ≤ max (length before) (n + 1)
  pub in_order_more : in_order before ≤ in_order after
  pub from : (m : ℕ) (q : Piece) → slice_get after m ≡ Some (Some q) → (slice_get before m ≡ Some (Some q)) ⊎
      ((m ≡ n) × (p ≡ q) × (in_order before ≤ n))

pub held_at : (n : ℕ) (p : Piece) (before : List (Option Piece)) → HeldAt n p before (hold n p before)
held_at zero p [] = record { longer = omega arith; most = omega arith; in_order_more = omega arith; from = λ m q at. one m q at }
  where
    one : (m : ℕ) (q : Piece) → slice_get (Some p ∷ []) m ≡ Some (Some q) → (slice_get [] m ≡ Some (Some q)) ⊎ ((m ≡ 0) × (p ≡ q) × (in_order [] ≤ 0))
    one zero q at = inr (refl, same_Some p q (same_Some (Some p) (Some q) at), omega arith)
    one (suc m) q at = absurd cc
held_at zero p (None ∷ later) = record { longer = omega arith; most = omega arith; in_order_more = omega arith; from = λ m q at. one m q at }
  where
    one : (m : ℕ) (q : Piece) → slice_get (Some p ∷ later) m ≡ Some (Some q) → (slice_get (None ∷ later) m ≡ Some (Some q)) ⊎
        ((m ≡ 0) × (p ≡ q) × (in_order (None ∷ later) ≤ 0))
    one zero q at = inr (refl, same_Some p q (same_Some (Some p) (Some q) at), omega arith)
    one (suc m) q at = inl at
held_at zero p (Some held ∷ later) = record { longer = omega arith; most = omega arith; in_order_more = omega arith; from = λ m q at. inl at }
held_at (suc n) p [] =
    let h = held_at n p [] in let most = h.most in
    record { longer = omega arith; most = omega arith; in_order_more = omega arith; from = λ m q at. one m q at (h.from) }
  where
    one : (m : ℕ) (q : Piece) → slice_get (None ∷ hold n p []) m ≡ Some (Some q) →
        ((m : ℕ) (q : Piece) → slice_get (hold n p []) m ≡ Some (Some q) → (slice_get [] m ≡ Some (Some q)) ⊎ ((m ≡ n) × (p ≡ q) × (in_order [] ≤ n)))
        →
        (slice_get [] m ≡ Some (Some q)) ⊎ ((m ≡ suc n) × (p ≡ q) × (in_order [] ≤ suc n))
    one zero q at from = absurd cc
    one (suc m) q at from = go (from m q at)
      where
        go : (slice_get [] m ≡ Some (Some q)) ⊎ ((m ≡ n) × (p ≡ q) × (in_order [] ≤ n)) → (slice_get [] (suc m) ≡ Some (Some q)) ⊎
            ((suc m ≡ suc n) × (p ≡ q) × (in_order [] ≤ suc n))
        go (inl e) = absurd cc
        go (inr e) = inr (ap suc e.0, e.1, omega arith)
held_at (suc n) p (first ∷ later) =
    let h = held_at n p later in let longer = h.longer in let most = h.most in
    record { longer = omega arith; most = omega arith; in_order_more = more first h.in_order_more; from = λ m q at. one m q at h.from }
  where
    more : (first : Option Piece) → in_order later ≤ in_order (hold n p later) → in_order (first ∷ later) ≤ in_order (first ∷ hold n p later)
    more None l = omega arith
    more (Some q) l = omega arith

    low : (first : Option Piece) → in_order later ≤ n → in_order (first ∷ later) ≤ suc n
    low None l = omega arith
    low (Some q) l = omega arith

    one : (m : ℕ) (q : Piece) → slice_get (first ∷ hold n p later) m ≡ Some (Some q) →
        ((m : ℕ) (q : Piece) → slice_get (hold n p later) m ≡ Some (Some q) → (slice_get later m ≡ Some (Some q)) ⊎
        ((m ≡ n) × (p ≡ q) × (in_order later ≤ n))) →
        (slice_get (first ∷ later) m ≡ Some (Some q)) ⊎ ((m ≡ suc n) × (p ≡ q) × (in_order (first ∷ later) ≤ suc n))
    one zero q at from = inl at
    one (suc m) q at from = go (from m q at)
      where
        go : (slice_get later m ≡ Some (Some q)) ⊎ ((m ≡ n) × (p ≡ q) × (in_order later ≤ n)) → (slice_get (first ∷ later) (suc m) ≡ Some (Some q)) ⊎
            ((suc m ≡ suc n) × (p ≡ q) × (in_order (first ∷ later) ≤ suc n))
        go (inl e) = inl e
        go (inr e) = inr (ap suc e.0, e.1, low first e.2)

module _ (own other : List (Option SentMessage)) (front : ℕ) (others : List (LinkOf TrueSegments)) (i : ℕ) (l : LinkOf TrueSegments)
    (h : IsSoundEnd own other front others i l)
    (theirs : AreNumbered view limits other own) (k : ℕ) (u : SentMessage) (there : slice_get other k ≡ Some (Some u)) (ahead : front ≤ k)
    (told : IsTold others u) (pair : IsOfPair i l.partner u.truth.tag) where
  from : name_of l.partner ≡ Some (sender_name u.truth.tag.link)
  from = ap name_of pair.partner_is ∙ ap (λ (x : Option ℕ). Some (sender_name x)) (sym pair.from)

  to : name_of u.truth.tag.partner ≡ Some (i + 1)
  to = ap name_of pair.to

  pub end_near : IsNear limits (numbers_of i l) (view (Some u))
  end_near = near view limits own other front (numbers_of i l) theirs h.present k (Some u) there ahead from to

  -- all that came was given by then
  came_given : length l.segments.received ≤ u.truth.known.given
  came_given = (near view limits own other front (record (numbers_of i l) { received = length l.segments.received }) theirs
      (present_raised own other front others i l h) k (Some u) there ahead from to).given_least

  -- what its sender took as acknowledged, this link did acknowledge
  acknowledged_last : u.truth.known.acknowledged ≤ l.segments.last
  acknowledged_last = go (theirs.acknowledged_from k (Some u) there)
    where
      go : AcknowledgedFrom view own (length own) (view (Some u)).sender → u.truth.known.acknowledged ≤ l.segments.last
      go (inl e) = omega arith
      go (inr s) = let p = h.present.up_to s.place s.unit s.there (same_Some _ _ (sym s.is_partner ∙ to)) in let a = s.says_so.0 in let b = p.last in
          omega arith

  lawful : IsLawful limits (view (Some u))
  lawful = theirs.lawful k (Some u) there

  pub acknowledges : Acknowledges l.segments u.truth.known.last u.truth.known.received
      (fold acknowledged_through l.segments u.truth.known.acknowledgements)
  acknowledges = through u.truth.known.last u.truth.known.received u.truth.known.acknowledgements l.segments told.at_most
      (acks_below u.truth.known.last_before u.truth.known.received u.truth.known.acknowledgements lawful.acks)

  -- the link in RUN with its highest number acknowledged
  acked : (acknowledged : ℕ) → LinkOf TrueSegments
  acked acknowledged = record l { port = record l.port { phase = Running }; segments = record l.segments { acknowledged = acknowledged } }

  end_acked : (acknowledged : ℕ) → l.segments.acknowledged ≤ acknowledged → acknowledged ≤ highest_given l.segments →
      (acknowledged ≡ l.segments.acknowledged) ⊎ ((acknowledged ≤ u.truth.known.last) × (acknowledged ≤ u.truth.known.received)) →
      IsSoundEnd own other (k + 1) others i (acked acknowledged)
  unfolding acked
  end_acked acknowledged more given most = record {
    segments = let f = h.segments in let few = f.few in let p = f.passed in let c = f.cut in record {
      acknowledged = given;
      few = omega arith;
      last = f.last;
      recent = f.recent;
      cut = record { all = c.all; none_left = c.none_left };
      passed = record { first = p.first; rest = p.rest; are = p.are; many = p.many; make = p.make; wholly = p.wholly };
    };
    present = present most;
    came = (end_further own other front others i l h (k + 1) (omega arith)).came;
    calling = λ e. absurd cc;
    held = h.held;
    none = λ e. let p = pair.partner_is in absurd cc;
  }
    where
      present : (acknowledged ≡ l.segments.acknowledged) ⊎ ((acknowledged ≤ u.truth.known.last) × (acknowledged ≤ u.truth.known.received)) →
          IsPresent view limits own other (k + 1) (record (numbers_of i l) { acknowledged = acknowledged })
      present (inl e) = subst (λ (x : ℕ). IsPresent view limits own other (k + 1) (record (numbers_of i l) { acknowledged = x })) (sym e)
          (present_further view limits own other front (k + 1) (numbers_of i l) h.present (omega arith))
      present (inr e) = present_acknowledged view limits own other front (k + 1) (numbers_of i l) h.present (omega arith) k (Some u) there
          (omega arith) from acknowledged more e.0 e.1

  -- its words
  pub end_acks : IsSoundEnd own other (k + 1) others i
      (with_segments (fold acknowledged_through l.segments u.truth.known.acknowledgements) (in_phase Running l))
  unfolding acked
  end_acks =
      let a = acknowledges in
      subst (λ (f : TrueSegments). IsSoundEnd own other (k + 1) others i (with_segments f (in_phase Running l))) (sym a.is)
      (end_acked a.acknowledged a.more (a.given h.segments.acknowledged) a.most)

  -- its segment
  module _ (s : SegmentValue) (t : SegmentTold others u s) (f : TrueSegments) (same_received : f.received ≡ l.segments.received)
      (same_last : f.last ≡ l.segments.last) (e : IsSoundEnd own other (k + 1) others i (with_segments f (in_phase Running l))) where
    at : HeldAt (u.truth.known.segment - 1) (piece_of s) f.received (hold (u.truth.known.segment - 1) (piece_of s) f.received)
    at = held_at (u.truth.known.segment - 1) (piece_of s) f.received

    number_most : u.truth.known.segment ≤ u.truth.known.given
    number_most = number_below u.truth.known.segment u.truth.known.given t.is_true.some lawful.number

    all_given : length (hold (u.truth.known.segment - 1) (piece_of s) f.received) ≤ u.truth.known.given
    all_given = let c = came_given in let m = at.most in let n = number_most in let some = t.is_true.some in let r = ap length same_received in
        omega arith

    some_given : in_order (hold (u.truth.known.segment - 1) (piece_of s) f.received) ≤ u.truth.known.given
    some_given = let a = all_given in let w = within_all (hold (u.truth.known.segment - 1) (piece_of s) f.received) in omega arith

    -- a piece that is held now is the one that the partner gave
    still_held : (sender : ℕ) → u.truth.tag.link ≡ Some sender → HeldFrom (Some sender) f.received others →
        HeldFrom (Some sender) (hold (u.truth.known.segment - 1) (piece_of s) f.received) others
    still_held sender is h = (h.0, h.1, λ m q there. go m q (at.from m q there))
      where
        number_is : t.number ≡ sender
        number_is = same_Some t.number sender (sym t.is_of ∙ is)

        link_is : t.link ≡ h.0
        link_is = same_Some t.link h.0 (sym t.there ∙ ap (slice_get others) number_is ∙ h.1)

        new : (q : Piece) → piece_of s ≡ q → in_order f.received ≤ u.truth.known.segment - 1 → (u.truth.known.segment ≤ u.truth.known.acknowledged) ⊎
            (slice_get t.link.segments.given (u.truth.known.segment - 1) ≡ Some (piece_of s)) →
            slice_get h.0.segments.given (u.truth.known.segment - 1) ≡ Some q
        new q same gap (inl low) = let a = acknowledged_last in let b = e.segments.last in let some = t.is_true.some in absurd (omega arith)
        new q same gap (inr there) = ap (λ (x : LinkOf TrueSegments). slice_get x.segments.given (u.truth.known.segment - 1)) (sym link_is) ∙ there ∙
            ap Some same

        go : (m : ℕ) (q : Piece) → (slice_get f.received m ≡ Some (Some q)) ⊎
            ((m ≡ u.truth.known.segment - 1) × (piece_of s ≡ q) × (in_order f.received ≤ u.truth.known.segment - 1)) →
            slice_get h.0.segments.given m ≡ Some q
        go m q (inl there) = h.2 m q there
        go m q (inr x) = ap (slice_get h.0.segments.given) x.0 ∙ new q x.1 x.2 t.is_true.piece

    pub end_segment : IsSoundEnd own other (k + 1) others i
        (with_segments (segments.with_segment u.truth.known.segment (piece_of s) f) (in_phase Running l))
    end_segment = record {
      segments = let g = e.segments in let c = g.cut in let few = lawful.few in let low = acknowledged_last in let more = at.in_order_more in
          let last = g.last in let most = at.most in let recent = g.recent in let n = number_most in let some = t.is_true.some in record {
            acknowledged = g.acknowledged;
            few = g.few;
            last = omega arith;
            recent = omega arith;
            cut = record { all = c.all; none_left = c.none_left };
            passed = passed_held f (u.truth.known.segment - 1) (piece_of s) g.passed;
          };
      present = present_received view limits own other (k + 1) (k + 1) (numbers_of i (with_segments f (in_phase Running l))) e.present (omega arith) k
          (Some u) there (omega arith) from
          (in_order (hold (u.truth.known.segment - 1) (piece_of s) f.received)) f.last at.in_order_more (omega arith) some_given;
      came = inr (record { place = k; unit = Some u; earlier = omega arith; there = there; is_partner = from; says_so = all_given });
      calling = λ e. absurd cc;
      held = subst (λ (x : Option ℕ). HeldFrom x (hold (u.truth.known.segment - 1) (piece_of s) f.received) others) (sym pair.partner_is)
          (still_held pair.sender pair.from (subst (λ (x : Option ℕ). HeldFrom x f.received others) pair.partner_is e.held));
      none = λ e. let p = pair.partner_is in absurd cc;
    }
