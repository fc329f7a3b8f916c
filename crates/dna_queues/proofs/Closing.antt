-- What comes for a link that its user has closed before it acted on what waits.
use Rattle.dna_queues.proofs.Prelude.{◌≡◌, ℕ, ◌-◌, Bool, true, false, ◌&&◌, ◌||◌, cond, Option, List, [], ◌∷◌, refl, sym, ap₂, subst, NspValue}
use Rattle.dna_queues.proofs.Prelude.{DataSegment, LinkService, DataAck, OtherDataAck, ConnectConfirm, DisconnectInitiate, DisconnectConfirm, Phase}
use Rattle.dna_queues.proofs.Prelude.{Calling, Confirming, Running, Disconnecting, Ended, Port, TheLink, CallingAt, ActedOn, passes, is_in, is_live}
use Rattle.dna_queues.proofs.Prelude.{is_at, is_connected, has_both, Piece, piece_of, hold, LinkTruth, Numbers, SentMessage}
use Rattle.dna_queues.proofs.Pieces.{Below, below_on, below_hold}
use Rattle.dna_queues.proofs.Goes.{Link}
use Rattle.dna_queues.proofs.Ahead.{Seen, Meets, Ahead, acted_as, confirmed_if, ended_if, takes_numbers}

-- ---- what comes for a link that is closed

abbrev pub closing : Seen → List (Option Piece) → Seen
closing x r = record x { port = record x.port { phase = Disconnecting }; received = r; used = Disconnecting }

abbrev pub over : Seen → Seen
over x = record x { port = record x.port { phase = Ended } }

abbrev pub closed : Seen → List (Option Piece) → Seen
closed x r = record x { port = record x.port { phase = Ended }; received = r; used = Disconnecting }

over_acted : (m : NspValue) (truth : LinkTruth Numbers) (x : Seen) → acted_as m truth (over x) ≡ over x
over_acted (ConnectConfirm dst src services info segsize user_data) truth x = refl
over_acted m truth x = refl

over_takes : (m : NspValue) (p : Port) → takes_numbers m (record p { phase = Ended }) ≡ true → ⊥
over_takes (DataSegment s) p e = cc
over_takes m p e = cc

closing_takes : (m : NspValue) (p : Port) → takes_numbers m (record p { phase = Disconnecting }) ≡ true → ⊥
closing_takes (DataSegment s) p e = cc
closing_takes m p e = cc

module _ (l k : Link) where
  ahead_over : (units : List SentMessage) (x : Seen) (r : List (Option Piece)) → (Meets (over x) l → Meets (closed x r) k) → Ahead units (over x) l →
      Ahead units (closed x r) k
  ahead_over [] x r meets ahead = meets ahead
  ahead_over (unit ∷ units) x r meets ahead = (
    λ taken. absurd (over_takes unit.packet.message x.port taken),
    subst (λ (a : Seen). Ahead units a k) (sym (over_acted unit.packet.message unit.truth (record x { received = r; used = Disconnecting })))
        (ahead_over units x r meets (subst (λ (a : Seen). Ahead units a l) (over_acted unit.packet.message unit.truth x) ahead.1)),
  )

  pub connected_is : (p : Phase) → is_connected p ≡ true → (is_live p ≡ true) × (is_in Calling p ≡ false)
  connected_is Confirming e = (refl, refl)
  connected_is Running e = (refl, refl)
  connected_is p e = absurd cc

  -- the link of the node, with what it had received when it was closed, once more has come
  pub record Closes (x : Seen) (r : List (Option Piece)) : Type 0 where
    pub connected : is_connected x.port.phase ≡ true
    pub used : x.used ≡ x.port.phase
    pub received : Below r x.received

  module _ (open_meets : (x : Seen) (r : List (Option Piece)) → Closes x r → Meets x l → Meets (closing x r) k)
      (over_meets : (x : Seen) (r : List (Option Piece)) → Closes x r → Meets (over x) l → Meets (closed x r) k) where
    abbrev Rest : List SentMessage → Type 0
    Rest units = (x : Seen) (r : List (Option Piece)) → Closes x r → Ahead units x l → Ahead units (closing x r) k

    ends_so : (units : List SentMessage) (own far : ℕ) (x : Seen) (r : List (Option Piece)) → Closes x r → Rest units →
        Ahead units (ended_if (passes (TheLink own far) x.port || passes (CallingAt own) x.port) x) l →
        Ahead units (ended_if (has_both x.port own far || false) (closing x r)) k
    ends_so units own far x r c rest ahead = go (has_both x.port own far) (subst (λ (b : Bool). Ahead units (ended_if b x) l) tests ahead)
      where
        tests : (passes (TheLink own far) x.port || passes (CallingAt own) x.port) ≡ (has_both x.port own far || false)
        tests = let p = connected_is x.port.phase c.connected in
            ap₂ (λ (live calling : Bool). (live && has_both x.port own far) || (calling && is_at x.port.own own)) p.0 p.1

        go : (b : Bool) → Ahead units (ended_if (b || false) x) l → Ahead units (ended_if (b || false) (closing x r)) k
        go true ahead = ahead_over units x r (over_meets x r c) ahead
        go false ahead = rest x r c ahead

    runs_so : (units : List SentMessage) (own far : ℕ) (x : Seen) (r received : List (Option Piece)) → Closes x r → Rest units → Below r received →
        Ahead units (cond (passes (ActedOn own far) x.port)
        (record x { port = record x.port { phase = Running }; used = Running; received = received }) x) l → Ahead units (closing x r) k
    runs_so units own far x r received c rest below ahead = go (passes (ActedOn own far) x.port) ahead
      where
        go : (b : Bool) → Ahead units (cond b (record x { port = record x.port { phase = Running }; used = Running; received = received }) x) l →
            Ahead units (closing x r) k
        go true ahead =
            rest (record x { port = record x.port { phase = Running }; used = Running; received = received }) r
            (record { connected = refl; used = refl; received = below }) ahead
        go false ahead = rest x r c ahead

    one_so : (m : NspValue) (truth : LinkTruth Numbers) (units : List SentMessage) (x : Seen) (r : List (Option Piece)) → Closes x r → Rest units →
        Ahead units (acted_as m truth x) l → Ahead units (acted_as m truth (closing x r)) k
    one_so (ConnectConfirm dst src services info segsize user_data) truth units x r c rest ahead =
        rest x r c (subst (λ (b : Bool). Ahead units (confirmed_if (b && is_at x.port.own dst) src segsize truth.tag.link x) l)
        (connected_is x.port.phase c.connected).1 ahead)
    one_so (DisconnectInitiate dst src reason user_data) truth units x r c rest ahead = ends_so units dst src x r c rest ahead
    one_so (DisconnectConfirm dst src reason) truth units x r c rest ahead = ends_so units dst src x r c rest ahead
    one_so (DataSegment s) truth units x r c rest ahead =
        runs_so units s.dstaddr s.srcaddr x r (hold (truth.known.segment - 1) (piece_of s) x.received) c rest
        (below_on r x.received _ c.received (below_hold (truth.known.segment - 1) (piece_of s) x.received))
        ahead
    one_so (DataAck dst src acks) truth units x r c rest ahead =
        runs_so units dst src x r x.received c rest c.received ahead
    one_so (LinkService interrupt dst src rest_of) truth units x r c rest ahead =
        runs_so units dst src x r x.received c rest c.received ahead
    one_so (OtherDataAck dst src rest_of) truth units x r c rest ahead =
        runs_so units dst src x r x.received c rest c.received ahead
    one_so m truth units x r c rest ahead = rest x r c ahead

    pub ahead_closing : (units : List SentMessage) → Rest units
    ahead_closing [] x r c ahead = open_meets x r c ahead
    ahead_closing (unit ∷ units) x r c ahead = (
      λ taken. absurd (closing_takes unit.packet.message x.port taken),
      one_so unit.packet.message unit.truth units x r c (ahead_closing units) ahead.1,
    )
