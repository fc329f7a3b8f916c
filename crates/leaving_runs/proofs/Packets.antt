-- What the program makes of packets is as it has to be.
use Rattle.leaving_runs.proofs.Prelude.{◌≡◌, ℕ, ◌-◌, ◌%◌, ◌<◌, Bool, true, false, not, ◌&&◌, ◌==◌, cond, eqb, leb, Option, Some, None, Result, Ok}
use Rattle.leaving_runs.proofs.Prelude.{Err, List, ◌∷◌, refl, sym, ap, ap₂, ◌∙◌, arith, eqb-true, eq-eqb, lt-leb, Side, other_side, IsBytes}
use Rattle.leaving_runs.proofs.Prelude.{IsInRange, MessageValue, reading, by_rule, PacketFault, NspFault, PacketValue, Control, packet_at, NspValue}
use Rattle.leaving_runs.proofs.Prelude.{DataSegment, LinkService, DataAck, OtherDataAck, ConnectAck, NoOperation, ConnectInitiate, ConnectConfirm}
use Rattle.leaving_runs.proofs.Prelude.{DisconnectInitiate, DisconnectConfirm, nsp_at, packet_takes, StepRefusal, Carried, content, content_of}
use Rattle.leaving_runs.proofs.Prelude.{message_in, is_returned, Leaving, at_receiver, at_sender, head_of, is_left, own, link_left, packet_left}
use Rattle.leaving_runs.proofs.Prelude.{packet_left_by, route_of, unmet, packet_kept, LeftOut, source_of, destination_of, sent_out, kept_out}
use Rattle.leaving_runs.proofs.Prelude.{is_judged_there, message_out, other_out, with_body, PacketsFit, leaves_at, KnowsHead}
use Rattle.ddcmp_msg.specs.Message as messages
use Rattle.ddcmp_msg.specs.Reading.{Sound}
use Rattle.dna_packet.specs.Packet.{Data}
use Rattle.dna_station.specs.declared.head.Head as stations
use Rattle.leaving_out.specs.Messages as program
use Rattle.leaving_out.specs.Packets.{message_left}
use Rattle.leaving_runs.proofs.Bytes.{body_bytes}

-- ---- addresses of messages

pub source_same : (m : NspValue) → program.source_of m ≡ source_of m
source_same (DataSegment segment) = refl
source_same (LinkService interrupt dst src rest) = refl
source_same (DataAck dst src acks) = refl
source_same (OtherDataAck dst src rest) = refl
source_same (ConnectAck dst) = refl
source_same (NoOperation rest) = refl
source_same (ConnectInitiate retransmitted src services info segsize user_data) = refl
source_same (ConnectConfirm dst src services info segsize user_data) = refl
source_same (DisconnectInitiate dst src reason user_data) = refl
source_same (DisconnectConfirm dst src reason) = refl

pub destination_same : (m : NspValue) → program.destination_of m ≡ destination_of m
destination_same (DataSegment segment) = refl
destination_same (LinkService interrupt dst src rest) = refl
destination_same (DataAck dst src acks) = refl
destination_same (OtherDataAck dst src rest) = refl
destination_same (ConnectAck dst) = refl
destination_same (NoOperation rest) = refl
destination_same (ConnectInitiate retransmitted src services info segsize user_data) = refl
destination_same (ConnectConfirm dst src services info segsize user_data) = refl
destination_same (DisconnectInitiate dst src reason user_data) = refl
destination_same (DisconnectConfirm dst src reason) = refl

module _ (leaving : Leaving) (side other : Side) (across : other_side side ≡ other) where
  abbrev out : LeftOut
  out = (leaves_at leaving side other).out

  abbrev has : Side → ℕ → Bool
  has at n = is_left leaving (own at n)

  sender_at : (src dst : ℕ) → is_left leaving (at_sender side src dst) ≡ sent_out out src dst
  sender_at src dst = ap (λ (far : Side). is_left leaving (cond (src == 0) (cond (dst == 0) (own side 0) (own far dst)) (own side src))) across
      ∙ go (src == 0) (dst == 0)
    where
      go : (y z : Bool) → is_left leaving (cond y (cond z (own side 0) (own other dst)) (own side src))
          ≡ cond y (cond z (has side 0) (has other dst)) (has side src)
      go true true = refl
      go true false = refl
      go false z = refl

  -- of a message that this side sent, at the other
  receiver_at : (src dst : ℕ) → is_left leaving (at_receiver side src dst) ≡ kept_out (other_out out) src dst
  receiver_at src dst =
      ap (λ (far : Side). is_left leaving (cond (dst == 0) (cond (src == 0) (own side 0) (own side src)) (own far dst))) across
      ∙ go (dst == 0) (src == 0) refl
    where
      go : (y z : Bool) → (src == 0) ≡ z → is_left leaving (cond y (cond z (own side 0) (own side src)) (own other dst))
          ≡ cond y (has side src) (has other dst)
      go true true e = ap (has side) (sym (eqb-true src 0 e))
      go true false e = refl
      go false z e = refl

  pub sent_same : (m : NspValue) → is_left leaving (at_sender side (program.source_of m) (program.destination_of m))
      ≡ sent_out out (source_of m) (destination_of m)
  sent_same m =
      ap₂ (λ (src dst : ℕ). is_left leaving (at_sender side src dst)) (source_same m) (destination_same m)
      ∙ sender_at (source_of m) (destination_of m)

  pub kept_same : (m : NspValue) → is_left leaving (at_receiver side (program.source_of m) (program.destination_of m))
      ≡ kept_out (other_out out) (source_of m) (destination_of m)
  kept_same m =
      ap₂ (λ (src dst : ℕ). is_left leaving (at_receiver side src dst)) (source_same m) (destination_same m)
      ∙ receiver_at (source_of m) (destination_of m)

-- ---- packets

-- a packet of a message becomes a routing control packet
pub unmet_none : (rtflg : ℕ) (rest : List ℕ) → rtflg < 128 → rtflg % 8 ≡ 2 → content (unmet (rtflg ∷ rest)) ≡ Ok None
unmet_none rtflg rest small short =
    let byte = 129 - rtflg in
    let low : leb 128 byte ≡ false = lt-leb _ _ (omega arith) in
    let odd : eqb (byte % 2) 1 ≡ true = eq-eqb _ _ (omega arith) in
    rw (low, odd) refl

no_error : {X : Type 0} (x : Option Carried) (refusal : StepRefusal) → ◌≡◌ {A = Result (Option Carried) StepRefusal} (Err refusal) (Ok x) → X
no_error x refusal e = absurd cc

module _ (leaving : Leaving) (side other : Side) (across : other_side side ≡ other) (body : List ℕ) (fits : IsBytes body) where
  abbrev o : LeftOut
  o = (leaves_at leaving side other).out

  none_by : (r : Result PacketValue PacketFault) → content_of r ≡ Ok None → content body ≡ Ok None → content
      (packet_left_by leaving side body r) ≡ Ok None
  none_by (Err fault) e whole = absurd cc
  none_by (Ok (Control bytes)) e whole = whole
  none_by (Ok (Data rtflg dst src forward nsp)) e whole = go (is_returned rtflg) e
    where
      never : (r : Result NspValue NspFault) → message_in dst src r ≡ Ok None → content
          (message_left leaving side (route_of rtflg dst src forward) body r)
          ≡ Ok None
      never (Ok m) e = absurd cc
      never (Err fault) e = absurd cc

      go : (b : Bool) → cond b (Ok None) (message_in dst src (nsp_at nsp)) ≡ Ok None →
          content (cond b body (message_left leaving side (route_of rtflg dst src forward) body (nsp_at nsp))) ≡ Ok None
      go true e = whole
      go false e = never (nsp_at nsp) e

  pub none_left : content body ≡ Ok None → content (packet_left leaving side body) ≡ Ok None
  none_left e = none_by (packet_at body) e e

  -- what is read of it, and what becomes of it
  module _ (carried : Carried) (whole : content body ≡ Ok (Some carried)) (P : List ℕ → Type 0)
      (by_message : (rtflg dst src forward : ℕ) (nsp : List ℕ) (m : NspValue) → packet_at body ≡ Ok (Data rtflg dst src forward nsp) →
      carried ≡ record { dst = dst; src = src; message = m } → P (message_left leaving side (route_of rtflg dst src forward) body (Ok m))) where
    message_by : (rtflg dst src forward : ℕ) (nsp : List ℕ) → packet_at body ≡ Ok (Data rtflg dst src forward nsp) → (r : Result NspValue NspFault) →
        message_in dst src r ≡ Ok (Some carried) → P (message_left leaving side (route_of rtflg dst src forward) body r)
    message_by rtflg dst src forward nsp at (Ok m) e = by_message rtflg dst src forward nsp m at (same e)
      where
        same : ◌≡◌ {A = Result (Option Carried) StepRefusal} (Ok (Some (record { dst = dst; src = src; message = m }))) (Ok (Some carried)) →
            carried ≡ record { dst = dst; src = src; message = m }
        same e = cc
    message_by rtflg dst src forward nsp at (Err fault) e = absurd cc

    packet_by : (r : Result PacketValue PacketFault) → packet_at body ≡ r → content_of r ≡ Ok (Some carried) → P (packet_left_by leaving side body r)
    packet_by (Err fault) at e = absurd cc
    packet_by (Ok (Control bytes)) at e = absurd cc
    packet_by (Ok (Data rtflg dst src forward nsp)) at e = go (is_returned rtflg) e
      where
        go : (b : Bool) → cond b (Ok None) (message_in dst src (nsp_at nsp)) ≡ Ok (Some carried) →
            P (cond b body (message_left leaving side (route_of rtflg dst src forward) body (nsp_at nsp)))
        go true e = absurd cc
        go false e = message_by rtflg dst src forward nsp at (nsp_at nsp) e

    pub packet_is : P (packet_left leaving side body)
    packet_is = packet_by (packet_at body) refl whole

  module _ (carried : Carried) (whole : content body ≡ Ok (Some carried)) where
    -- of a message that is left out at both ends
    pub none_of_it : message_out o carried.message ≡ true →
        kept_out (other_out o) (source_of carried.message) (destination_of carried.message) ≡ true → content (packet_left leaving side body) ≡
        Ok None
    none_of_it gone there = packet_is carried whole (λ (p : List ℕ). content p ≡ Ok None) at
      where
        first : (b c : Bool) → (b && not c) ≡ true → b ≡ true
        first true c e = refl
        first false c e = absurd cc

        at : (rtflg dst src forward : ℕ) (nsp : List ℕ) (m : NspValue) → packet_at body ≡ Ok (Data rtflg dst src forward nsp) →
            carried ≡ record { dst = dst; src = src; message = m } →
            content (message_left leaving side (route_of rtflg dst src forward) body (Ok m)) ≡ Ok None
        at rtflg dst src forward nsp m read is =
            let same : carried.message ≡ m = ap (λ (c : Carried). c.message) is in
            let sent : sent_out o (source_of m) (destination_of m) ≡ true =
            first (sent_out o (source_of m) (destination_of m)) (is_judged_there o m) (ap (message_out o) (sym same) ∙ gone) in
            let kept : kept_out (other_out o) (source_of m) (destination_of m) ≡ true =
            ap (λ (x : NspValue). kept_out (other_out o) (source_of x) (destination_of x)) (sym same) ∙ there in
            let takes = packet_takes body (Data rtflg dst src forward nsp) fits read in
            ap₂ (λ (a b : Bool). content (cond a (cond b (unmet body)
            (link_left (head_of leaving side) (route_of rtflg dst src forward) body m)) body))
            (sent_same leaving side other across m ∙ sent) (kept_same leaving side other across m ∙ kept)
            ∙ ap (λ (p : List ℕ). content (unmet p)) takes.1 ∙ unmet_none rtflg _ takes.0.0.0 takes.0.0.1

    -- of one that is judged at its sender
    pub same_so : sent_out o (source_of carried.message) (destination_of carried.message) ≡ false →
        content (packet_left leaving side body) ≡ Ok (Some carried)
    same_so judged = packet_is carried whole (λ (p : List ℕ). content p ≡ Ok (Some carried)) at
      where
        at : (rtflg dst src forward : ℕ) (nsp : List ℕ) (m : NspValue) → packet_at body ≡ Ok (Data rtflg dst src forward nsp) →
            carried ≡ record { dst = dst; src = src; message = m } →
            content (message_left leaving side (route_of rtflg dst src forward) body (Ok m)) ≡ Ok (Some carried)
        at rtflg dst src forward nsp m read is =
            let same : carried.message ≡ m = ap (λ (c : Carried). c.message) is in
            let sent : sent_out o (source_of m) (destination_of m) ≡ false =
            ap (λ (x : NspValue). sent_out o (source_of x) (destination_of x)) (sym same) ∙ judged in
            ap (λ (a : Bool). content (cond a (cond (is_left leaving (at_receiver side (program.source_of m) (program.destination_of m)))
            (unmet body)
            (link_left (head_of leaving side) (route_of rtflg dst src forward) body m)) body)) (sent_same leaving side other across m ∙ sent)
            ∙ whole

    -- of one that stays
    pub stays_so : (carried.src ≡ (head_of leaving side).own) → (carried.dst ≡ (head_of leaving side).peer) → message_out o carried.message ≡ false →
        content (packet_left leaving side body) ≡ Ok (Some carried)
    stays_so from to judged = packet_is carried whole (λ (p : List ℕ). content p ≡ Ok (Some carried)) at
      where
        never : (a b : Bool) → a ≡ true → (a && not b) ≡ false → b ≡ true
        never true true e f = refl
        never true false e f = absurd cc
        never false b e f = absurd cc

        at : (rtflg dst src forward : ℕ) (nsp : List ℕ) (m : NspValue) → packet_at body ≡ Ok (Data rtflg dst src forward nsp) →
            carried ≡ record { dst = dst; src = src; message = m } →
            content (message_left leaving side (route_of rtflg dst src forward) body (Ok m)) ≡ Ok (Some carried)
        at rtflg dst src forward nsp m read is = go (sent_out o (source_of m) (destination_of m)) refl
          where
            same : carried.message ≡ m
            same = ap (λ (c : Carried). c.message) is

            -- a DC between two links, the far one of which is judged
            confirm : (m : NspValue) → is_judged_there o m ≡ true →
                cond (is_left leaving (at_receiver side (program.source_of m) (program.destination_of m))) (unmet body)
                (link_left (head_of leaving side) (route_of rtflg dst src forward) body m) ≡ body
            confirm (DisconnectConfirm link_dst link_src reason) e =
                parts (link_src == 0) (link_dst == 0) (is_left leaving (own other link_dst)) refl refl refl e
              where
                parts : (y z x : Bool) → (link_src == 0) ≡ y → (link_dst == 0) ≡ z → is_left leaving (own other link_dst) ≡ x →
                    (not y && (not z && not x)) ≡ true →
                    cond (is_left leaving (at_receiver side link_src link_dst)) (unmet body)
                    (link_left (head_of leaving side) (route_of rtflg dst src forward) body (DisconnectConfirm link_dst link_src reason)) ≡ body
                parts false false false f g k e =
                    let here : src ≡ (head_of leaving side).own = sym (ap (λ (c : Carried). c.src) is) ∙ from in
                    let there : dst ≡ (head_of leaving side).peer = sym (ap (λ (c : Carried). c.dst) is) ∙ to in
                    let head : eqb src (head_of leaving side).own ≡ true = eq-eqb _ _ here in
                    let peer : eqb dst (head_of leaving side).peer ≡ true = eq-eqb _ _ there in
                    let left : is_left leaving (at_receiver side link_src link_dst) ≡ false =
                    kept_same leaving side other across (DisconnectConfirm link_dst link_src reason)
                    ∙ ap (λ (b : Bool). cond b (is_left leaving (own side link_src)) (is_left leaving (own other link_dst))) g ∙ k in
                    rw (left, head, peer, g, f) refl
                parts true z x f g k e = absurd cc
                parts false true x f g k e = absurd cc
                parts false false true f g k e = absurd cc
            confirm m e = absurd cc

            go : (b : Bool) → sent_out o (source_of m) (destination_of m) ≡ b →
                content (message_left leaving side (route_of rtflg dst src forward) body (Ok m)) ≡ Ok (Some carried)
            go false sent =
                ap (λ (a : Bool). content (cond a (cond (is_left leaving (at_receiver side (program.source_of m) (program.destination_of m)))
                (unmet body)
                (link_left (head_of leaving side) (route_of rtflg dst src forward) body m)) body)) (sent_same leaving side other across m ∙ sent)
                ∙ whole
            go true sent =
                ap (λ (a : Bool). content (cond a (cond (is_left leaving (at_receiver side (program.source_of m) (program.destination_of m)))
                (unmet body)
                (link_left (head_of leaving side) (route_of rtflg dst src forward) body m)) body)) (sent_same leaving side other across m ∙ sent)
                ∙ ap content (confirm m (never (sent_out o (source_of m) (destination_of m)) (is_judged_there o m) sent
                (ap (message_out o) (sym same) ∙ judged)))
                ∙ whole

-- ---- all of it

in_range_left : (leaving : Leaving) (side : Side) (unit : List ℕ) (m : MessageValue) → IsBytes unit → reading unit ≡ Sound m →
    IsInRange (with_body (packet_left leaving side) m)
in_range_left leaving side unit (messages.Data flags resp num body) fits e =
    let u = ((by_rule unit (Sound (messages.Data flags resp num body)) fits).0 e).in_range in
    let k = packet_kept body (body_bytes unit (messages.Data flags resp num body) fits e) leaving side in
    (k.some u.0, omega (arith, k.short, u.0, u.1))
in_range_left leaving side unit (messages.Ack flags resp) fits e = tt
in_range_left leaving side unit (messages.Nak flags reason resp) fits e = tt
in_range_left leaving side unit (messages.Rep flags num) fits e = tt
in_range_left leaving side unit (messages.Strt flags) fits e = tt
in_range_left leaving side unit (messages.Stack flags) fits e = tt

pub packets_fit : (leaving : Leaving) (side other : Side) → other_side side ≡ other → (head : stations.Head) → KnowsHead leaving side head →
    PacketsFit (leaves_at leaving side other).out head.own head.peer (packet_left leaving side)
packets_fit leaving side other across head knows = record {
  in_range = in_range_left leaving side;
  none = λ body fits e. none_left leaving side other across body fits e;
  stays = λ body carried fits whole from to judged. stays_so leaving side other across body fits carried whole (from ∙ sym knows.own_is)
      (to ∙ sym knows.peer_is) judged;
  same = λ body carried fits whole judged. same_so leaving side other across body fits carried whole judged;
  goes = λ body carried fits whole gone there. none_of_it leaving side other across body fits carried whole gone there;
}
