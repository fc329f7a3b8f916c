-- What becomes of a packet that comes: it can be read on; and where its message is left out at its sender, and judged where it comes, links meet of
-- it no more than that it ends a link.
use Rattle.leaving_runs.proofs.Prelude.{◌≡◌, ℕ, suc, Bool, true, false, ◌==◌, cond, eqb, Option, Some, None, Result, Ok, Err, List, refl, sym, ap}
use Rattle.leaving_runs.proofs.Prelude.{ap₂, ◌∙◌, subst, eqb-true, eq-eqb, Side, other_side, IsBytes, NspFault, IsPacket, packet_bytes, packet_at}
use Rattle.leaving_runs.proofs.Prelude.{IsNsp, NspValue, DataSegment, LinkService, DataAck, OtherDataAck, ConnectAck, NoOperation, ConnectInitiate}
use Rattle.leaving_runs.proofs.Prelude.{ConnectConfirm, DisconnectInitiate, DisconnectConfirm, nsp_bytes, nsp_at, nsp_again, nsp_takes}
use Rattle.leaving_runs.proofs.Prelude.{packet_again, packet_takes, StepRefusal, Carried, content, content_of, message_in, is_returned, Leaving}
use Rattle.leaving_runs.proofs.Prelude.{Route, at_receiver, head_of, is_left, link_left, names_both, packet_left, packet_with, route_of, unmet}
use Rattle.leaving_runs.proofs.Prelude.{LeftOut, source_of, destination_of, sent_out, kept_out, other_out, leaves_at}
use Rattle.dna_packet.specs.Packet.{Data}
use Rattle.leaving_out.specs.Messages as program
use Rattle.leaving_out.specs.Packets.{message_left}
use Rattle.leaving_runs.proofs.Packets.{sent_same, kept_same, unmet_none, packet_is}

-- what links meet of it
abbrev pub stands_for : NspValue → Option NspValue
stands_for (DisconnectInitiate dst src reason user_data) = Some (DisconnectConfirm dst src reason)
stands_for (DisconnectConfirm dst src reason) = Some (DisconnectConfirm dst src reason)
stands_for (DataSegment segment) = None
stands_for (LinkService interrupt dst src rest) = None
stands_for (DataAck dst src acks) = None
stands_for (OtherDataAck dst src rest) = None
stands_for (ConnectAck dst) = None
stands_for (NoOperation rest) = None
stands_for (ConnectInitiate retransmitted src services info segsize user_data) = None
stands_for (ConnectConfirm dst src services info segsize user_data) = None

abbrev pub carries : (dst src : ℕ) → Option NspValue → Option Carried
carries dst src None = None
carries dst src (Some m) = Some (record { dst = dst; src = src; message = m })

-- such a message names both links
pub both_named : (out : LeftOut) (src dst : ℕ) → sent_out out src dst ≡ true → kept_out (other_out out) src dst ≡ false →
    ((src == 0) ≡ false) × ((dst == 0) ≡ false)
both_named out src dst sent kept = go (src == 0) (dst == 0) refl sent kept
  where
    never : {P : Type 0} (b : Bool) → b ≡ true → b ≡ false → P
    never true e f = absurd cc
    never false e f = absurd cc

    go : (y z : Bool) → (src == 0) ≡ y → cond y (cond z (out.own 0) (out.far dst)) (out.own src) ≡ true →
        cond z (out.own src) (out.far dst) ≡ false → (y ≡ false) × (z ≡ false)
    go true true e sent kept = never (out.own 0) sent (ap out.own (sym (eqb-true src 0 e)) ∙ kept)
    go true false e sent kept = never (out.far dst) sent kept
    go false true e sent kept = never (out.own src) sent kept
    go false false e sent kept = (refl, refl)

module _ (leaving : Leaving) (side other : Side) (across : other_side side ≡ other) (body : List ℕ) (fits : IsBytes body) (carried : Carried)
    (whole : content body ≡ Ok (Some carried)) where
  abbrev o : LeftOut
  o = (leaves_at leaving side other).out

  module _ (rtflg dst src forward : ℕ) (nsp : List ℕ) (m : NspValue) (read : packet_at body ≡ Ok (Data rtflg dst src forward nsp))
      (is : carried ≡ record { dst = dst; src = src; message = m }) where
    abbrev route : Route
    route = route_of rtflg dst src forward

    within : (b : Bool) (r : Result NspValue NspFault) → cond b (Ok None) (message_in dst src r) ≡ Ok (Some carried) →
        (b ≡ false) × (r ≡ Ok carried.message)
    within true r e = absurd cc
    within false (Ok n) e = (refl, ap message_of e)
      where
        message_of : Result (Option Carried) StepRefusal → Result NspValue NspFault
        message_of (Ok (Some c)) = Ok c.message
        message_of (Ok None) = Ok n
        message_of (Err refusal) = Ok n
    within false (Err fault) e = absurd cc

    parts : (is_returned rtflg ≡ false) × (nsp_at nsp ≡ Ok carried.message)
    parts = within (is_returned rtflg) (nsp_at nsp) (sym (ap content_of read) ∙ whole)

    takes : IsPacket (Data rtflg dst src forward nsp) × (body ≡ packet_bytes (Data rtflg dst src forward nsp))
    takes = packet_takes body (Data rtflg dst src forward nsp) fits read

    all_bytes : IsBytes (packet_bytes (Data rtflg dst src forward nsp))
    all_bytes = subst IsBytes takes.1 fits

    message_fits : IsNsp m
    message_fits =
        (nsp_takes nsp m (λ j. all_bytes (suc (suc (suc (suc (suc (suc j))))))) (parts.1 ∙ ap (λ (c : Carried). Ok c.message) is)).0

    is_unmet : content (unmet body) ≡ Ok None
    is_unmet = ap (λ (p : List ℕ). content (unmet p)) takes.1 ∙ unmet_none rtflg _ takes.0.0.0 takes.0.0.1

    -- a DC in its place
    is_confirm : (n : NspValue) → IsNsp n → content (packet_with route n) ≡ Ok (Some (record { dst = dst; src = src; message = n }))
    is_confirm n n_fits =
        ap content_of (packet_again (Data rtflg dst src forward (nsp_bytes n)) (takes.0.0, takes.0.1))
        ∙ ap₂ (λ (b : Bool) (r : Result NspValue NspFault). cond b (Ok None) (message_in dst src r)) parts.0 (nsp_again n n_fits)

    itself : content body ≡ Ok (Some (record { dst = dst; src = src; message = m }))
    itself = whole ∙ ap (λ (c : Carried). Ok (Some c)) is

    -- by whether it names both links, and goes from its node to the other
    abbrev by_names : Bool → NspValue → Option Carried
    by_names b n = cond b (carries dst src (stands_for n)) None

    link_by : (n : NspValue) → m ≡ n → content (link_left (head_of leaving side) route body n)
        ≡ Ok (by_names (names_both (head_of leaving side) route (program.destination_of n) (program.source_of n)) n)
    link_by (DisconnectInitiate to from reason user_data) same = go (names_both (head_of leaving side) route to from)
      where
        go : (b : Bool) → content (cond b (packet_with route (DisconnectConfirm to from reason)) (unmet body)) ≡ Ok (by_names b
            (DisconnectInitiate to from reason user_data))
        go true = is_confirm (DisconnectConfirm to from reason) (tt, (subst IsNsp same message_fits).1)
        go false = is_unmet
    link_by (DisconnectConfirm to from reason) same = go (names_both (head_of leaving side) route to from)
      where
        go : (b : Bool) → content (cond b body (unmet body)) ≡ Ok (by_names b (DisconnectConfirm to from reason))
        go true = itself ∙ ap (λ (n : NspValue). Ok (Some (record { dst = dst; src = src; message = n }))) same
        go false = is_unmet
    link_by n same = is_unmet ∙ ap Ok (none (names_both (head_of leaving side) route (program.destination_of n) (program.source_of n)))
      where
        none : (b : Bool) → ◌≡◌ {A = Option Carried} None (cond b None None)
        none true = refl
        none false = refl

    abbrev Reads : List ℕ → Type 0
    Reads p = (c : Option Carried) × (content p ≡ Ok c)

    reads_at : Reads (message_left leaving side route body (Ok m))
    reads_at = by_sender (is_left leaving _) (is_left leaving (at_receiver side (program.source_of m) (program.destination_of m)))
      where
        by_sender : (a b : Bool) → Reads (cond a (cond b (unmet body) (link_left (head_of leaving side) route body m)) body)
        by_sender true true = (None, is_unmet)
        by_sender true false = (_, link_by m refl)
        by_sender false b = (Some carried, whole)

    stands_at : (carried.src ≡ (head_of leaving side).own) → (carried.dst ≡ (head_of leaving side).peer) →
        sent_out o (source_of carried.message) (destination_of carried.message) ≡ true →
        kept_out (other_out o) (source_of carried.message) (destination_of carried.message) ≡ false →
        content (message_left leaving side route body (Ok m)) ≡ Ok (carries carried.dst carried.src (stands_for carried.message))
    stands_at from to sent kept =
        let same : carried.message ≡ m = ap (λ (c : Carried). c.message) is in
        let sent_m : sent_out o (source_of m) (destination_of m) ≡ true =
        ap (λ (x : NspValue). sent_out o (source_of x) (destination_of x)) (sym same) ∙ sent in
        let kept_m : kept_out (other_out o) (source_of m) (destination_of m) ≡ false =
        ap (λ (x : NspValue). kept_out (other_out o) (source_of x) (destination_of x)) (sym same) ∙ kept in
        ap₂ (λ (a b : Bool). content (cond a (cond b (unmet body) (link_left (head_of leaving side) route body m)) body))
        (sent_same leaving side other across m ∙ sent_m) (kept_same leaving side other across m ∙ kept_m)
        ∙ link_by m refl ∙ ap Ok (names m sent_m kept_m)
        ∙ ap (λ (c : Carried). Ok (carries c.dst c.src (stands_for c.message))) (sym is)
      where
        here : eqb src (head_of leaving side).own ≡ true
        here = eq-eqb _ _ (sym (ap (λ (c : Carried). c.src) is) ∙ from)

        there : eqb dst (head_of leaving side).peer ≡ true
        there = eq-eqb _ _ (sym (ap (λ (c : Carried). c.dst) is) ∙ to)

        -- where none stands for it, names make no difference
        none : (b : Bool) → ◌≡◌ {A = Option Carried} (cond b None None) None
        none true = refl
        none false = refl

        names : (n : NspValue) → sent_out o (source_of n) (destination_of n) ≡ true →
            kept_out (other_out o) (source_of n) (destination_of n) ≡ false →
            by_names (names_both (head_of leaving side) route (program.destination_of n) (program.source_of n)) n ≡ carries dst src (stands_for n)
        names (DisconnectInitiate link_dst link_src reason user_data) sent kept =
            let both = both_named o link_src link_dst sent kept in
            let far = both.1 in let near = both.0 in
            rw (here, there, far, near) refl
        names (DisconnectConfirm link_dst link_src reason) sent kept =
            let both = both_named o link_src link_dst sent kept in
            let far = both.1 in let near = both.0 in
            rw (here, there, far, near) refl
        names n sent kept = none (names_both (head_of leaving side) route (program.destination_of n) (program.source_of n))

  pub reads_on : (c : Option Carried) × (content (packet_left leaving side body) ≡ Ok c)
  reads_on =
      packet_is leaving side other across body fits carried whole (λ (p : List ℕ). (c : Option Carried) × (content p ≡ Ok c))
      (λ rtflg dst src forward nsp m read is. reads_at rtflg dst src forward nsp m read is)

  pub stands_in : (carried.src ≡ (head_of leaving side).own) → (carried.dst ≡ (head_of leaving side).peer) →
      sent_out o (source_of carried.message) (destination_of carried.message) ≡ true →
      kept_out (other_out o) (source_of carried.message) (destination_of carried.message) ≡ false →
      content (packet_left leaving side body) ≡ Ok (carries carried.dst carried.src (stands_for carried.message))
  stands_in from to sent kept =
      packet_is leaving side other across body fits carried whole
      (λ (p : List ℕ). content p ≡ Ok (carries carried.dst carried.src (stands_for carried.message)))
      (λ rtflg dst src forward nsp m read is. stands_at rtflg dst src forward nsp m read is from to sent kept)
