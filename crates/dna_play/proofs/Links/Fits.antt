-- What a link of the player is: what its phase asks of its addresses and its SEGSIZE, and pieces of bytes that are no longer than a segment may be.
use Rattle.dna_play.proofs.Prelude.{◌≡◌, ℕ, Bool, true, false, ◌&&◌, eqb, cond, Option, Some, None, List, [], ◌∷◌, length, drop, refl, subst, arith}
use Rattle.dna_play.proofs.Prelude.{slice_get, is_some, AllByRecursion, length-take, NspValue, DataSegment, ConnectInitiate, ConnectConfirm, Phase}
use Rattle.dna_play.proofs.Prelude.{Confirming, Running, is_connected, Piece, piece_of, Unsent, left_of, SEGSIZE, piece_with, next_piece_of, LinkOf}
use Rattle.dna_play.proofs.Prelude.{TrueSegments, are_bytes, LinkOwed, Duty, ConnectAckDuty, InitiateDuty, ConfirmDuty, DisconnectDuty, DataAckDuty}
use Rattle.dna_play.proofs.Prelude.{SegmentDuty, piece_to_send, duty_message}
use Rattle.dna_play.proofs.Bytes.{HasBytes, left, taken}
use Rattle.dna_play.proofs.EachElement.{left_all, there}
use Rattle.dna_play.proofs.Links.Pays.{fits_in, Fits, variables_of}

-- ---- pieces

abbrev pub AreMessages : List (List ℕ) → Type 0
AreMessages messages = AllByRecursion (λ (m : List ℕ). are_bytes m ≡ true) messages

-- a piece that was put together here
abbrev pub PieceFits : Piece → Type 0
PieceFits p = HasBytes SEGSIZE p.body

-- what is in no piece yet, and pieces that were given
pub record PiecesFit (u : Unsent) (pieces : List Piece) : Type 0 where
  pub unsent : AreMessages u.messages
  pub given : AllByRecursion PieceFits pieces

pub left_fits : (p : Piece) (messages : List (List ℕ)) → AreMessages messages → AreMessages (left_of p messages).messages
left_fits p [] all = tt
left_fits p (rest ∷ later) all = go p.ends
  where
    go : (b : Bool) →
        AreMessages (cond {A = Unsent} b (record { begun = false; messages = later })
        (record { begun = true; messages = drop (length p.body) rest ∷ later })).messages
    go true = all.1
    go false = (left (length p.body) rest all.0, all.1)

piece_fits : (begun : Bool) (rest : List ℕ) → are_bytes rest ≡ true → PieceFits (piece_with begun rest)
piece_fits begun rest e = let l = length-take SEGSIZE rest in record { are = taken SEGSIZE rest e; few = omega arith }

pub next_fits : (begun : Bool) (messages : List (List ℕ)) → AreMessages messages → PieceFits (next_piece_of begun messages)
next_fits begun [] all = piece_fits begun [] refl
next_fits begun (rest ∷ later) all = piece_fits begun rest all.0

-- one that was given again, or the next
pub to_send_fits : (u : Unsent) (pieces : List Piece) (place : ℕ) → PiecesFit u pieces → PieceFits (piece_to_send (slice_get pieces place) u)
to_send_fits u pieces place h = go (slice_get pieces place) refl
  where
    go : (o : Option Piece) → slice_get pieces place ≡ o → PieceFits (piece_to_send o u)
    go None at = next_fits u.begun u.messages h.unsent
    go (Some p) at = there PieceFits pieces place p h.given at

-- ---- the segments of a link

abbrev pub SegmentsFit : TrueSegments → Type 0
SegmentsFit f = PiecesFit f.unsent f.given

-- ---- a link

pub record LinkFits (l : LinkOf TrueSegments) : Type 0 where
  pub shape : Fits l
  pub segments : SegmentsFit l.segments

-- what an end of the player sends: pieces that fit, and this SEGSIZE
abbrev pub IsPlain : NspValue → Type 0
IsPlain (DataSegment s) = PieceFits (piece_of s)
IsPlain (ConnectInitiate retransmitted src services info segsize user_data) = segsize ≡ SEGSIZE
IsPlain (ConnectConfirm dst src services info segsize user_data) = segsize ≡ SEGSIZE
IsPlain m = Unit {0}

pub duty_plain : (l : LinkOf TrueSegments) (owed : LinkOwed) (duty : Duty) → SegmentsFit l.segments →
    IsPlain (duty_message duty (record { port = l.port; variables = variables_of l; owed = owed }))
duty_plain l owed ConnectAckDuty h = tt
duty_plain l owed InitiateDuty h = refl
duty_plain l owed ConfirmDuty h = refl
duty_plain l owed DisconnectDuty h = tt
duty_plain l owed DataAckDuty h = tt
duty_plain l owed SegmentDuty h =
    let f = l.segments in
    to_send_fits f.unsent (variables_of l).outstanding owed.ahead
    (record { unsent = h.unsent; given = left_all PieceFits f.acknowledged f.given h.given })

-- a link in Confirming or RUN knows both addresses
pub connected_fits : (phase : Phase) (l : LinkOf TrueSegments) → is_connected phase ≡ true → fits_in phase l ≡ true →
    (is_some l.port.own && (is_some l.port.far && eqb l.segsize SEGSIZE)) ≡ true
connected_fits Confirming l c f = f
connected_fits Running l c f = f
connected_fits phase l c f = absurd cc

-- as its phase asks
pub fits_as : (l : LinkOf TrueSegments) (phase : Phase) → l.port.phase ≡ phase → Fits l → fits_in phase l ≡ true
fits_as l phase is shape = subst (λ (p : Phase). fits_in p l ≡ true) is shape
