-- A word that is sent tells that the link's last acknowledgement sent is at least its number.
use Rattle.accusing_links.proofs.Prelude.{◌≡◌, ℕ, Bool, true, false, not, Option, Some, List, [], ◌∷◌, refl, sym, subst, fold, and_parts, AckWord}
use Rattle.accusing_links.proofs.Prelude.{NspValue, DataSegment, DataAck, IsInRange, Phase, Called, Running, Queues, Without, With, LinkQueue}
use Rattle.accusing_links.proofs.Prelude.{OfRun, is_in, wire, is_of_data, LinkOf, Carried, changed, with_segments, may_send, with_queue, is_over}
use Rattle.accusing_links.proofs.Prelude.{Effect, Say, Keep, sending_row, WireSegments, wire_segments, WireLinks, wire_links_sent, kept, after}
use Rattle.accusing_links.proofs.Prelude.{of_none, does, Sent}
use Rattle.dna_links.specs.WireSegments as made_by
use Rattle.accusing_links.proofs.{Answered.Good, Each.each_at, Along.SendShows, Along.sent_good, Rows.kept_each, Rows.always_sends}
use Rattle.accusing_links.proofs.{Received.Received, Tied.Is, Tied.AreTied, Follows.IsCalm, Follows.all_follow, FarLinks.OneTo, AllFollow.AreKnown}
use Rattle.accusing_links.proofs.{AllFollow.all_by_one, FollowSteps.not_both}
use Rattle.accusing_links.proofs.Sends.{AreSaid, sends_acks_good, sent_left}
use Rattle.accusing_links.proofs.RightLinks.{Numbers, IsLinkRight, AreRight}
use Rattle.accusing_links.proofs.FollowSends.{Says, IsOf, is_of, here}

running_begun : (phase : Phase) → is_in Running phase ≡ true → is_in Called phase ≡ false
running_begun Running e = refl
running_begun phase e = absurd cc

not_called : (b ran : Bool) → ran ≡ true → (b ≡ true → ran ≡ false) → b ≡ false
not_called true ran e not_yet = not_both ran e (not_yet refl)
not_called false ran e not_yet = refl

run_begun : (q : Queues) (l : LinkOf WireSegments) → (is_in Called l.port.phase ≡ true → l.queue.ran ≡ false) → may_send q Running l ≡ true →
    is_in Called l.port.phase ≡ false
run_begun Without l not_yet may = running_begun l.port.phase may
run_begun With l not_yet may =
    not_called (is_in Called l.port.phase) l.queue.ran (and_parts l.queue.ran (not (is_over l.queue.said)) may).0 not_yet

-- the last acknowledgement sent is at least each of these words
module _ (queues : Queues) (own far : ℕ) (Q : ℕ → Type 0) (links : List (LinkOf WireSegments)) where
  pub record IsAtLeast (number : ℕ) : Type 0 where
    pub for : ℕ
    pub same : number ≡ wire for
    pub known : AreKnown queues own far for Q links

  abbrev pub AreAtLeast : List AckWord → Type 0
  AreAtLeast [] = Unit {0}
  AreAtLeast (word ∷ words) = (is_of_data word.qualifier ≡ true → IsAtLeast word.number) × AreAtLeast words

module _ (N P : Numbers) (queues : Queues) (own far : ℕ) (s : WireLinks) where
  abbrev Q : ℕ → Type 0
  Q = N own far

  abbrev said : List Effect
  said = kept queues (Say OfRun ∷ Keep ∷ [])

  module _ (right : AreRight N queues s.links) (tied : AreTied P queues s.links) (one : OneTo far s.links) where
    received_of : (to from n : ℕ) (l : LinkOf WireSegments) → IsOf queues s to from n l → from ≡ own → to ≡ far → Received 0 Q l.segments
    received_of to from n l is e f =
        (each_at (IsLinkRight N) s.links n l right is.there).both own far (here from own l.port.own is.from_own e)
        (here to far l.port.far is.to_far f)

    abbrev with_said : LinkOf WireSegments → LinkOf WireSegments
    with_said l = fold (does queues wire_segments (of_none queues wire_segments)) l said

    after_said : (q : Queues) (n : ℕ) (l : LinkOf WireSegments) (k : Unit {0}) →
        after q wire_segments s (kept q (Say OfRun ∷ Keep ∷ [])) (Some n) l k ≡ changed n l s
    after_said Without n l k = refl
    after_said With n l k = refl

    words_known : (to from n : ℕ) (l : LinkOf WireSegments) (queue : LinkQueue) (f : WireSegments) (words : List AckWord) →
        IsOf queues s to from n l → to ≡ far → AreSaid Q f.variables.received f.variables.pieces (made_by.last_of f) words →
        AreAtLeast queues own far Q (changed n (with_said (with_queue queue (with_segments f l))) s).links words
    words_known to from n l queue f [] is e are = tt
    words_known to from n l queue f (word ∷ words) is e are = (
      λ g. let this = are.0 g in record {
        for = this.for;
        same = this.same;
        known = all_by_one queues own far this.for Q s.links n l _ one is.there (here to far l.port.far is.to_far e)
            ((all_follow queues own far this.for Q (of_none queues wire_segments) (with_queue queue (with_segments f l)) said
            (kept_each (IsCalm queues own far this.for Q) queues (Say OfRun ∷ Keep ∷ []) (tt, (tt, tt)))).known
            (λ h i. record {
              begun = run_begun queues l (each_at (Is P queues) s.links n l tied is.there).not_yet is.may;
              received = λ o. this.held;
            }));
      },
      words_known to from n l queue f words is e are.1,
    )

    words_after : (to from n : ℕ) (l : LinkOf WireSegments) (queue : LinkQueue) (f : WireSegments) (words : List AckWord) (k : Unit {0}) →
        IsOf queues s to from n l → to ≡ far → AreSaid Q f.variables.received f.variables.pieces (made_by.last_of f) words →
        AreAtLeast queues own far Q
        (after queues wire_segments s said (Some n) (with_said (with_queue queue (with_segments f l))) k).links words
    words_after to from n l queue f words k is e are =
        subst (λ (x : WireLinks). AreAtLeast queues own far Q x.links words)
        (sym (after_said queues n (with_said (with_queue queue (with_segments f l))) k)) (words_known to from n l queue f words is e are)

    abbrev Tells : NspValue → Sent WireSegments (Unit {0}) → Type 0
    Tells m made = Says own far (AreAtLeast queues own far Q made.links.links) m

    abbrev Now : NspValue → List Effect → Option ℕ → LinkOf WireSegments → Type 0
    Now m es n l = Says own far (AreAtLeast queues own far Q (after queues wire_segments s es n l tt).links) m

    said_shows : (m : NspValue) → IsInRange m → SendShows queues (of_none queues wire_segments) s (Now m) (sending_row m)
    said_shows (DataSegment segment) small = λ n l used turn f gap made e g.
        let is = is_of queues s segment.dstaddr segment.srcaddr n l used turn in
        words_after segment.dstaddr segment.srcaddr n l (record l.queue { gap = gap }) f segment.acks tt is g
        (sent_left 0 Q segment l f small.0 (received_of segment.dstaddr segment.srcaddr n l is e g) made).2
    said_shows (DataAck dst src acks) small = λ n l used turn sent gap made e g.
        let is = is_of queues s dst src n l used turn in
        words_after dst src n l (record l.queue { gap = gap }) sent.segments acks tt is g
        (sends_acks_good 0 Q l.segments (received_of dst src n l is e g) acks small.0 sent made).2
    said_shows m small = always_sends queues s (Unit {0}) tt (of_none queues wire_segments) (sending_row m)

    pub sent_said : (packet : Carried) → IsInRange packet.message → Good (Tells packet.message) (wire_links_sent queues s packet)
    sent_said packet small =
        sent_good queues s packet (Now packet.message) (Tells packet.message) (λ es n l k now. now) (said_shows packet.message small)
