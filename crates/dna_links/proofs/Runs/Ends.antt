-- One end of a link, beside all that both sides first sent: what holds of it at any time, and what keeps it.
use Rattle.std.proofs.Common.{◌≡◌, ℕ, ◌+◌, ◌-◌, ◌≤◌, true, ◌⊎◌, inl, inr, Option, Some, None, List, [], ◌∷◌, ◌++◌, length, sym, ap, ◌∙◌, subst, arith}
use Rattle.std.specs.Prelude.{slice_get}
use Rattle.two_nodes.proofs.Order.{slice_get-append}
use Rattle.dna_packet.specs.declared.ack_word.AckWord.{AckWord}
use Rattle.dna_packet.specs.Nsp.{SegmentValue, DataSegment, DataAck}
use Rattle.dna_links.specs.declared.port.Port.{Port}
use Rattle.dna_links.specs.LookUps.{is_calling}
use Rattle.dna_links.specs.Segmentation.{Piece, in_order}
use Rattle.dna_links.specs.Links.{LinkOf, with_segments}
use Rattle.dna_links.specs.TrueSegments.{TrueSegments, highest_given, highest_received}
use Rattle.dna_links.specs.Runs.{SentMessage}
use Rattle.dna_links.specs.Delivery.{HeldFrom}
use Rattle.two_nodes.proofs.Numbered.{Numbers, Numbered, IsUpTo, ReceivedFrom, IsPresent}
use Rattle.two_nodes.proofs.NumberedSteps.{present_beside, present_further, at_pushed}
use Rattle.dna_links.proofs.Tables.Words.{limits, AreAtMost, AreWords}
use Rattle.dna_links.proofs.Runs.Sends.{number_in, AreSoundSegments, within_all, IsTrueSegment}

-- a link's name among the numbered: no message without a link has it
abbrev pub name_of : Option ℕ → Option ℕ
name_of None = None
name_of (Some number) = Some (number + 1)

abbrev pub sender_name : Option ℕ → ℕ
sender_name None = 0
sender_name (Some number) = number + 1

abbrev pub nobody : Numbers
nobody = record { name = 0; partner = None; given = 0; received = 0; acknowledged = 0; last = 0 }

abbrev pub numbers_of : ℕ → LinkOf TrueSegments → Numbers
numbers_of i l = record {
  name = i + 1;
  partner = name_of l.partner;
  given = highest_given l.segments;
  received = highest_received l.segments;
  acknowledged =
      l.segments.acknowledged;
  last = l.segments.last;
}

abbrev pub view : Option SentMessage → Numbered
view None = record { sender = nobody; last_before = 0; number = None; acks = [] }
view (Some u) = record {
  sender = record {
    name = sender_name u.truth.tag.link;
    partner = name_of u.truth.tag.partner;
    given = u.truth.known.given;
    received =
        u.truth.known.received;
    acknowledged = u.truth.known.acknowledged;
    last = u.truth.known.last;
  };
  last_before = u.truth.known.last_before;
  number = number_in u.truth.known.segment;
  acks = u.truth.known.acknowledgements;
}

-- ---- links that grow

-- the link is still there, and has given what it had, and perhaps more
pub record GrownAt (links : List (LinkOf TrueSegments)) (i : ℕ) (l : LinkOf TrueSegments) : Type 0 where
  pub link : LinkOf TrueSegments
  pub there : slice_get links i ≡ Some link
  pub more : List Piece
  pub given : link.segments.given ≡ l.segments.given ++ more

abbrev pub Grows : (links further : List (LinkOf TrueSegments)) → Type 0
Grows links further = (i : ℕ) (l : LinkOf TrueSegments) → slice_get links i ≡ Some l → GrownAt further i l

-- ---- what is true of a message that was sent

-- a segment is of a link, and is true
pub record SegmentTold (links : List (LinkOf TrueSegments)) (u : SentMessage) (s : SegmentValue) : Type 0 where
  pub number : ℕ
  pub link : LinkOf TrueSegments
  pub is_of : u.truth.tag.link ≡ Some number
  pub there : slice_get links number ≡ Some link
  pub is_true : IsTrueSegment s link.segments.given u.truth.known

pub record IsTold (links : List (LinkOf TrueSegments)) (u : SentMessage) : Type 0 where
  pub sender : (number : ℕ) → u.truth.tag.link ≡ Some number → (link : LinkOf TrueSegments) × (slice_get links number ≡ Some link)
  pub at_most : AreAtMost u.truth.known.last u.truth.known.acknowledgements
  pub segment : (s : SegmentValue) → u.packet.message ≡ DataSegment s → SegmentTold links u s
  pub words : (dst src : ℕ) (acks : List AckWord) → u.packet.message ≡ DataAck dst src acks → AreWords acks u.truth.known.acknowledgements

pub told_grown : (links further : List (LinkOf TrueSegments)) (u : SentMessage) → Grows links further → IsTold links u → IsTold further u
told_grown links further u grows t = record {
  sender = λ number e. let s = t.sender number e in let g = grows number s.0 s.1 in (g.link, g.there);
  at_most = t.at_most;
  segment = λ s e. grown s (t.segment s e);
  words = t.words;
}
  where
    piece_grown : (given more : List Piece) (n : ℕ) (p : Piece) (k : ℕ) → (n ≤ k) ⊎ (slice_get given (n - 1) ≡ Some p) →
        (n ≤ k) ⊎ (slice_get (given ++ more) (n - 1) ≡ Some p)
    piece_grown given more n p k (inl a) = inl a
    piece_grown given more n p k (inr at) = inr (slice_get-append given more (n - 1) p at)

    grown : (s : SegmentValue) → SegmentTold links u s → SegmentTold further u s
    grown s d =
        let g = grows d.number d.link d.there in let i = d.is_true in
        record {
          number = d.number;
          link = g.link;
          is_of = d.is_of;
          there = g.there;
          is_true = subst (λ (x : List Piece). IsTrueSegment s x u.truth.known) (sym g.given)
              (record { some = i.some; spelled = i.spelled; words = i.words; piece = piece_grown d.link.segments.given g.more _ _ _ i.piece });
        }

pub held_grown : (links further : List (LinkOf TrueSegments)) (partner : Option ℕ) (received : List (Option Piece)) → Grows links further →
    HeldFrom partner received links → HeldFrom partner received further
held_grown links further None received grows h = h
held_grown links further (Some partner) received grows h =
    let g = grows partner h.0 h.1 in
    (g.link, g.there, λ n p at. ap (λ (x : List Piece). slice_get x n) g.given ∙ slice_get-append h.0.segments.given g.more n p (h.2 n p at))

-- ---- one end

pub record IsSoundEnd (own other : List (Option SentMessage)) (front : ℕ) (others : List (LinkOf TrueSegments)) (i : ℕ)
    (l : LinkOf TrueSegments) : Type 0
  where
    pub segments : AreSoundSegments l.segments
    pub present : IsPresent view limits own other front (numbers_of i l)
    -- also what came behind a gap was given by then
    pub came : ReceivedFrom view other front (record (numbers_of i l) { received = length l.segments.received })
    pub calling : is_calling l.port.phase ≡ true → l.partner ≡ None
    pub held : HeldFrom l.partner l.segments.received others
    pub none : l.partner ≡ None → l.segments.acknowledged ≡ 0

-- the numbers of one that received more
raised : (own other : List (Option SentMessage)) (front received : ℕ) (now : Numbers) → now.received ≤ received →
    ReceivedFrom view other front (record now { received = received }) → IsPresent view limits own other front now →
    IsPresent view limits own other front (record now { received = received })
raised own other front received now more from p = record {
  up_to = λ i m at same. let u = p.up_to i m at same in let r = u.received in record { given = u.given; received = omega arith; last = u.last };
  few = p.few;
  received_from = from;
  acknowledged_from = p.acknowledged_from;
}

module _ (own other : List (Option SentMessage)) (front : ℕ) (others : List (LinkOf TrueSegments)) (i : ℕ) where
  -- its port changes, and it is not in Calling but where it was
  pub end_port : (l : LinkOf TrueSegments) (port : Port) → (is_calling port.phase ≡ true → is_calling l.port.phase ≡ true) →
      IsSoundEnd own other front others i l → IsSoundEnd own other front others i (record l { port = port })
  end_port l port calling h =
      record { segments = h.segments; present = h.present; came = h.came; calling = λ e. h.calling (calling e); held = h.held; none = h.none }

  -- what is handed in or delivered changes nothing of its numbers
  pub end_segments : (l : LinkOf TrueSegments) (f : TrueSegments) → AreSoundSegments f → f.given ≡ l.segments.given →
      f.received ≡ l.segments.received →
      f.acknowledged ≡ l.segments.acknowledged → f.last ≡ l.segments.last → IsSoundEnd own other front others i l →
      IsSoundEnd own other front others i (with_segments f l)
  end_segments l f sound given received acknowledged last h = record {
    segments = sound;
    present = subst (IsPresent view limits own other front) numbers h.present;
    came = subst (λ (x : List (Option Piece)). ReceivedFrom view other front (record (numbers_of i l) { received = length x })) (sym received) h.came;
    calling = h.calling;
    held = subst (λ (x : List (Option Piece)). HeldFrom l.partner x others) (sym received) h.held;
    none = λ e. acknowledged ∙ h.none e;
  }
    where
      numbers : numbers_of i l ≡ numbers_of i (with_segments f l)
      numbers =
          ap (λ (x : List Piece). record (numbers_of i l) { given = length x }) (sym given)
          ∙ ap (λ (x : List (Option Piece)). record (numbers_of i l) { given = length f.given; received = in_order x }) (sym received)
          ∙ ap (λ (x : ℕ). record (numbers_of i l) { given = length f.given; received = highest_received f; acknowledged = x }) (sym acknowledged)
          ∙ ap (λ (x : ℕ). record (numbers_of i l) { given = length f.given; received = highest_received f; acknowledged = f.acknowledged; last = x })
          (sym last)

  module _ (l : LinkOf TrueSegments) (h : IsSoundEnd own other front others i l) where
    pub present_raised : IsPresent view limits own other front (record (numbers_of i l) { received = length l.segments.received })
    present_raised = raised own other front (length l.segments.received) (numbers_of i l) (within_all l.segments.received) h.came h.present

    -- the other side's links grow
    pub end_grown : (further : List (LinkOf TrueSegments)) → Grows others further → IsSoundEnd own other front further i l
    end_grown further grows =
        record {
          segments = h.segments;
          present = h.present;
          came = h.came;
          calling = h.calling;
          held =
              held_grown others further l.partner l.segments.received grows h.held;
          none = h.none;
        }

    -- the other side sends
    pub end_beside : (x : Option SentMessage) → IsSoundEnd own (other ++ x ∷ []) front others i l
    end_beside x = record {
      segments = h.segments;
      present = present_beside view limits other x own front (numbers_of i l) h.present;
      came = (present_beside view limits other x own front (record (numbers_of i l) { received = length l.segments.received })
          present_raised).received_from;
      calling = h.calling;
      held = h.held;
      none = h.none;
    }

    -- this side keeps a packet
    pub end_further : (front' : ℕ) → front ≤ front' → IsSoundEnd own other front' others i l
    end_further front' further = record {
      segments = h.segments;
      present = present_further view limits own other front front' (numbers_of i l) h.present further;
      came = (present_further view limits own other front front' (record (numbers_of i l) { received = length l.segments.received }) present_raised
          further).received_from;
      calling = h.calling;
      held = h.held;
      none = h.none;
    }

-- this side sends a message of another name
pub present_aside : (own other : List (Option SentMessage)) (front : ℕ) (now : Numbers) (x : Option SentMessage) →
    ((view x).sender.name ≡ now.name → ⊥) → IsPresent view limits own other front now → IsPresent view limits (own ++ x ∷ []) other front now
present_aside own other front now x differs p = record {
  up_to = λ i m at same. go i m same (at_pushed own x m i at);
  few = p.few;
  received_from = p.received_from;
  acknowledged_from = p.acknowledged_from;
}
  where
    go : (i : ℕ) (m : Option SentMessage) → (view m).sender.name ≡ now.name → (slice_get own i ≡ Some m) ⊎ ((i ≡ length own) × (x ≡ m)) →
        IsUpTo (view m).sender now
    go i m same (inl at) = p.up_to i m at same
    go i m same (inr e) = absurd (differs (ap (λ (y : Option SentMessage). (view y).sender.name) e.1 ∙ same))

pub end_aside : (own other : List (Option SentMessage)) (front : ℕ) (others : List (LinkOf TrueSegments)) (i : ℕ) (l : LinkOf TrueSegments)
    (x : Option SentMessage) → ((view x).sender.name ≡ i + 1 → ⊥) → IsSoundEnd own other front others i l →
    IsSoundEnd (own ++ x ∷ []) other front others i l
end_aside own other front others i l x differs h = record {
  segments = h.segments;
  present = present_aside own other front (numbers_of i l) x differs h.present;
  came = h.came;
  calling = h.calling;
  held = h.held;
  none = h.none;
}

-- without the last message that this side sent
pub end_without : (own other : List (Option SentMessage)) (front : ℕ) (others : List (LinkOf TrueSegments)) (i : ℕ) (l : LinkOf TrueSegments)
    (x : Option SentMessage) → IsSoundEnd (own ++ x ∷ []) other front others i l → IsSoundEnd own other front others i l
end_without own other front others i l x h = record {
  segments = h.segments;
  present = let p = h.present in record {
    up_to = λ k m at same. p.up_to k m (slice_get-append own (x ∷ []) k m at) same;
    few = p.few;
    received_from = p.received_from;
    acknowledged_from = p.acknowledged_from;
  };
  came = h.came;
  calling = h.calling;
  held = h.held;
  none = h.none;
}
