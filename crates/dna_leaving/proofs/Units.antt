-- A message that is sent: where it is judged at its receiver it is judged at its sender, and it names links that are there, and judged ones.
use Rattle.dna_leaving.proofs.Prelude.{◌≡◌, ℕ, ◌≤◌, Bool, true, false, not, ◌&&◌, cond, eqb, ltb, ◌==◌, Option, Some, None, length, Result, Ok, Err}
use Rattle.dna_leaving.proofs.Prelude.{refl, sym, ap, ◌∙◌, subst, arith, eqb-true, lt-ltb, ltb-true, slice_get, IfSome, and_parts, NspValue}
use Rattle.dna_leaving.proofs.Prelude.{DataSegment, LinkService, DataAck, OtherDataAck, ConnectAck, NoOperation, ConnectInitiate, ConnectConfirm}
use Rattle.dna_leaving.proofs.Prelude.{DisconnectInitiate, DisconnectConfirm, LinkRefusal, NoLink, WrongNode, Port, LinkTest, TheLink, OpenedAt}
use Rattle.dna_leaving.proofs.Prelude.{Queues, Without, With, passes, is_at, is_live, SegmentBook, LinkOf, LinksOf, Carried, with_seen, in_use}
use Rattle.dna_leaving.proofs.Prelude.{with_in_use, Sent, message_sent, sent_step, TrueSegments, Numbers, true_segments, Links, links_sent}
use Rattle.dna_leaving.proofs.Prelude.{SentMessage, Marks, LeftOut, nothing_out, source_of, destination_of, event_out, sent_out, kept_out}
use Rattle.dna_leaving.proofs.Prelude.{is_judged_there, message_out, is_out, true_rules, LinkRecord, OfUser, Sends, Keeps, OfNoLink, LinkEventValue}
use Rattle.dna_leaving.proofs.Prelude.{Open, Accept, Reject, In, Up, Close, Abort, Boot, Judged, OwnFits, FarFits, IsOneAtZero, AreFit, IsOfJudged}
use Rattle.dna_leaving.proofs.Prelude.{MessageBinds, NamesJudged, other_out, other_judged}
use Rattle.dna_leaving.proofs.LookUps.{its_port, look_holds}
use Rattle.dna_leaving.proofs.Asked.{in_use_is}
use Rattle.dna_leaving.proofs.Answered.{IfMade, check_holds}
use Rattle.dna_leaving.proofs.Steps.{IsTagged, sent_tagged}

-- ---- all there is

-- what is there is all that has a number below this
abbrev pub below : ℕ → Marks
below size n = ltb n size

abbrev pub there_are : (here there : ℕ) → Judged
there_are here there = record { here = below here; there = below there }

pub below_more : (size more n : ℕ) → size ≤ more → below size n ≡ true → below more n ≡ true
below_more size more n grows is = let less = ltb-true n size is in lt-ltb n more (omega (arith, less, grows))

pub named_more : (marks more : Marks) → ((n : ℕ) → marks n ≡ true → more n ≡ true) → (number : Option ℕ) → IsOfJudged marks number →
    IsOfJudged more number
named_more marks more all None is = tt
named_more marks more all (Some n) is = all n is

-- ---- messages that name both links

module _ (out : LeftOut) (src dst : ℕ) where
  -- where both are bound, or one is 0, the message is about the same for both ends
  alike_if : ((src == 0) ≡ false → (dst == 0) ≡ false → out.own src ≡ out.far dst) → sent_out out src dst ≡ kept_out (other_out out) src dst
  alike_if bound = go (src == 0) (dst == 0) refl refl
    where
      go : (y z : Bool) → (src == 0) ≡ y → (dst == 0) ≡ z →
          cond y (cond z (out.own 0) (out.far dst)) (out.own src) ≡ cond z (out.own src) (out.far dst)
      go true true e f = ap out.own (sym (eqb-true src 0 e))
      go true false e f = refl
      go false true e f = refl
      go false false e f = bound e f

  abbrev IsJudgedAfar : Type 0
  IsJudgedAfar = kept_out (other_out out) src dst ≡ false

  stays_as : (m : NspValue) → sent_out out src dst ≡ kept_out (other_out out) src dst → (x : Bool) → IsJudgedAfar →
      (sent_out out src dst && x) ≡ false
  stays_as m alike x is = ap (λ (o : Bool). o && x) (alike ∙ is)

  confirm_stays : (reason : ℕ) → IsJudgedAfar → message_out out (DisconnectConfirm dst src reason) ≡ false
  confirm_stays reason is = go (src == 0) (dst == 0) refl refl
    where
      as_one : ((src == 0) ≡ false → (dst == 0) ≡ false → out.own src ≡ out.far dst) → message_out out (DisconnectConfirm dst src reason) ≡ false
      as_one bound = stays_as (DisconnectConfirm dst src reason) (alike_if bound) (not (is_judged_there out (DisconnectConfirm dst src reason))) is

      never : (o : Bool) → (o && false) ≡ false
      never true = refl
      never false = refl

      go : (y z : Bool) → (src == 0) ≡ y → (dst == 0) ≡ z → message_out out (DisconnectConfirm dst src reason) ≡ false
      go true z e f = as_one (λ g h. absurd cc)
      go false true e f = as_one (λ g h. absurd cc)
      go false false e f =
          let far : out.far dst ≡ false = sym (ap (λ (z : Bool). cond z (out.own src) (out.far dst)) f) ∙ is in
          let stays : is_judged_there out (DisconnectConfirm dst src reason) ≡ true = rw (e, f, far) refl in
          ap (λ (x : Bool). sent_out out src dst && not x) stays ∙ never (sent_out out src dst)

-- ---- what links tell of what they send

own_at : (out : LeftOut) (c : Bool) (known : Option ℕ) (n : ℕ) → is_at known n ≡ true → OwnFits out c known → (1 ≤ n) × (out.own n ≡ not c)
own_at out c None n at fits = absurd cc
own_at out c (Some own) n at fits =
    let same = eqb-true own n at in let one = fits.0 in (omega (arith, same, one), sym (ap out.own same) ∙ fits.1)

far_at : (out : LeftOut) (c : Bool) (known : Option ℕ) (n : ℕ) → is_at known n ≡ true → FarFits out c known → out.far n ≡ not c
far_at out c None n at fits = absurd cc
far_at out c (Some far) n at fits = sym (ap out.far (eqb-true far n at)) ∙ fits.1

if_held : {R : Type 0} (C : Type 0) → C → (r : Result R LinkRefusal) → IfMade (λ (x : R). C) r
if_held C held (Ok x) = held
if_held C held (Err refusal) = tt

module _ (out : LeftOut) where
  -- what is known of the addresses of a message that links made
  abbrev pub MessageTold : NspValue → Type 0
  MessageTold (ConnectInitiate retransmitted src services info segsize user_data) = 1 ≤ src
  MessageTold (ConnectConfirm dst src services info segsize user_data) = (1 ≤ src) × (out.own src ≡ out.far dst)
  MessageTold (DisconnectInitiate dst src reason user_data) = (1 ≤ src) × (out.own src ≡ out.far dst)
  MessageTold (DataSegment segment) = (1 ≤ segment.srcaddr) × (out.own segment.srcaddr ≡ out.far segment.dstaddr)
  MessageTold (DataAck dst src acks) = (1 ≤ src) × (out.own src ≡ out.far dst)
  MessageTold (LinkService interrupt dst src rest) = (1 ≤ src) × (out.own src ≡ out.far dst)
  MessageTold (OtherDataAck dst src rest) = (1 ≤ src) × (out.own src ≡ out.far dst)
  MessageTold m = Unit {0}

  pub told_stays : (m : NspValue) → MessageTold m → kept_out (other_out out) (source_of m) (destination_of m) ≡ false → message_out out m ≡ false
  told_stays (ConnectInitiate retransmitted src services info segsize user_data) told is =
      stays_as out src 0 (ConnectInitiate retransmitted src services info segsize user_data) (alike_if out src 0 (λ e f. absurd cc)) true is
  told_stays (ConnectAck dst) told is = stays_as out 0 dst (ConnectAck dst) (alike_if out 0 dst (λ e f. absurd cc)) true is
  told_stays (NoOperation rest) told is = stays_as out 0 0 (NoOperation rest) (alike_if out 0 0 (λ e f. absurd cc)) true is
  told_stays (DisconnectConfirm dst src reason) told is = confirm_stays out src dst reason is
  told_stays (ConnectConfirm dst src services info segsize user_data) told is =
      stays_as out src dst (ConnectConfirm dst src services info segsize user_data) (alike_if out src dst (λ e f. told.1)) true is
  told_stays (DisconnectInitiate dst src reason user_data) told is =
      stays_as out src dst (DisconnectInitiate dst src reason user_data) (alike_if out src dst (λ e f. told.1)) true is
  told_stays (DataSegment segment) told is =
      stays_as out segment.srcaddr segment.dstaddr (DataSegment segment) (alike_if out segment.srcaddr segment.dstaddr (λ e f. told.1)) true is
  told_stays (DataAck dst src acks) told is = stays_as out src dst (DataAck dst src acks) (alike_if out src dst (λ e f. told.1)) true is
  told_stays (LinkService interrupt dst src rest) told is =
      stays_as out src dst (LinkService interrupt dst src rest) (alike_if out src dst (λ e f. told.1)) true is
  told_stays (OtherDataAck dst src rest) told is =
      stays_as out src dst (OtherDataAck dst src rest) (alike_if out src dst (λ e f. told.1)) true is

  never_zero : (src : ℕ) → 1 ≤ src → IsOneAtZero (other_out out) src
  never_zero src one none = absurd (omega (arith, one, none))

  pub told_binds : (m : NspValue) → MessageTold m → MessageBinds (other_out out) m
  told_binds (ConnectInitiate retransmitted src services info segsize user_data) told = never_zero src told
  told_binds (ConnectConfirm dst src services info segsize user_data) told = (never_zero src told.0, λ one. sym told.1)
  told_binds m told = tt

  module _ {D K : Type 0} (queues : Queues) (book : SegmentBook D K) (judged : Judged) (s : LinksOf D) (fit : AreFit out judged s) where
    -- a link passes this test, by its own port or another
    in_use_told : (C : Type 0) (test : LinkTest) → ((n : ℕ) (l : LinkOf D) → slice_get s.links n ≡ Some l → (port : Port) →
        port.own ≡ l.port.own → port.far ≡ l.port.far → passes test port ≡ true → C) → {R : Type 0} (q : Queues)
        (next : ℕ → LinkOf D → Result R LinkRefusal) → IfMade (λ (x : R). C) (with_in_use q test s (Err NoLink) next)
    in_use_told C test found {R} Without next =
        look_holds (IfMade (λ (x : R). C)) its_port test s (Err NoLink) next tt
        (λ n l there passed. if_held C (found n l there l.port refl refl passed) (next n l))
    in_use_told C test found {R} With next =
        look_holds (IfMade (λ (x : R). C)) its_port test s (with_seen (in_use With) test s (Err NoLink) next) next
        (look_holds (IfMade (λ (x : R). C)) (in_use With) test s (Err NoLink) next tt
        (λ n l there passed. if_held C
        (found n l there (in_use With l) (in_use_is.own l) (in_use_is.far l) passed) (next n l)))
        (λ n l there passed. if_held C (found n l there l.port refl refl passed) (next n l))

    own_told : (n : ℕ) (l : LinkOf D) → slice_get s.links n ≡ Some l → (own : Option ℕ) → own ≡ l.port.own → (src : ℕ) →
        is_at own src ≡ true → (1 ≤ src) × (out.own src ≡ not (judged.here n))
    own_told n l there own same src at =
        own_at out (judged.here n) l.port.own src (ap (λ (o : Option ℕ). is_at o src) (sym same) ∙ at) (fit n l there).own

    far_told : (n : ℕ) (l : LinkOf D) → slice_get s.links n ≡ Some l → (far : Option ℕ) → far ≡ l.port.far → (dst : ℕ) →
        is_at far dst ≡ true → out.far dst ≡ not (judged.here n)
    far_told n l there far same dst at =
        far_at out (judged.here n) l.port.far dst (ap (λ (o : Option ℕ). is_at o dst) (sym same) ∙ at) (fit n l there).far

    the_link_told : (src dst : ℕ) {R : Type 0} (next : ℕ → LinkOf D → Result R LinkRefusal) →
        IfMade (λ (x : R). (1 ≤ src) × (out.own src ≡ out.far dst)) (with_in_use queues (TheLink src dst) s (Err NoLink) next)
    the_link_told src dst next =
        in_use_told ((1 ≤ src) × (out.own src ≡ out.far dst)) (TheLink src dst)
        (λ n l there port own far passed.
        let both = and_parts (is_at port.own src) (is_at port.far dst) (and_parts (is_live port.phase) _ passed).1 in
        let at_own = own_told n l there port.own own src both.0 in
        (at_own.0, at_own.1 ∙ sym (far_told n l there port.far far dst both.1))) queues next

    opened_told : (src : ℕ) {R : Type 0} (next : ℕ → LinkOf D → Result R LinkRefusal) →
        IfMade (λ (x : R). 1 ≤ src) (with_in_use queues (OpenedAt src) s (Err NoLink) next)
    opened_told src next =
        in_use_told (1 ≤ src) (OpenedAt src)
        (λ n l there port own far passed.
        (own_told n l there port.own own src (and_parts port.opened (is_at port.own src) (and_parts
        (is_live port.phase) _ passed).1).1).0) queues next

    abbrev Told : NspValue → Sent D K → Type 0
    Told m made = MessageTold m

    message_told : (m : NspValue) → IfMade (Told m) (message_sent queues book s m)
    message_told (ConnectInitiate retransmitted src services info segsize user_data) = opened_told src _
    message_told (ConnectConfirm dst src services info segsize user_data) = the_link_told src dst _
    message_told (DisconnectInitiate dst src reason user_data) = the_link_told src dst _
    message_told (DataSegment segment) = the_link_told segment.srcaddr segment.dstaddr _
    message_told (DataAck dst src acks) = the_link_told src dst _
    message_told (LinkService interrupt dst src rest) = the_link_told src dst _
    message_told (OtherDataAck dst src rest) = the_link_told src dst _
    message_told (ConnectAck dst) = if_held (Unit {0}) tt (message_sent queues book s (ConnectAck dst))
    message_told (NoOperation rest) = tt
    message_told (DisconnectConfirm dst src reason) = if_held (Unit {0}) tt (message_sent queues book s (DisconnectConfirm dst src reason))

    pub sent_told : (packet : Carried) → IfMade (Told packet.message) (sent_step queues book s packet)
    sent_told packet =
        check_holds (Told packet.message) (eqb packet.src s.node && eqb packet.dst s.peer) WrongNode
        (message_sent queues book s packet.message) (message_told packet.message)

none_out : (m : NspValue) → message_out nothing_out m ≡ false
none_out m = go (source_of m == 0) (destination_of m == 0)
  where
    go : (y z : Bool) → (cond y (cond z false false) false && not (is_judged_there nothing_out m)) ≡ false
    go true true = refl
    go true false = refl
    go false z = refl

pub no_record_out : {K : Type 0} (one : LinkRecord K) → is_out nothing_out one ≡ false
no_record_out (OfUser event) = go event
  where
    go : (event : LinkEventValue) → event_out nothing_out event ≡ false
    go (Open own) = refl
    go (Accept far own) = refl
    go (Reject far own) = refl
    go (In own message) = refl
    go (Up own message) = refl
    go (Close own) = refl
    go (Abort own) = refl
    go Boot = refl
no_record_out (Sends packet) = none_out packet.message
no_record_out (Keeps packet truth) = go (destination_of packet.message == 0)
  where
    go : (z : Bool) → cond z false false ≡ false
    go true = refl
    go false = refl
no_record_out OfNoLink = refl

-- ---- a unit

-- one that a side sent, which has so many links, beside the other, which has so many
pub record UnitRight (out : LeftOut) (judged : Judged) (here there : ℕ) (unit : SentMessage) : Type 0 where
  -- what is judged at its receiver stays
  pub stays : kept_out (other_out out) (source_of unit.packet.message) (destination_of unit.packet.message) ≡ false →
      message_out out unit.packet.message ≡ false
  -- what stays is of judged links
  pub named : message_out out unit.packet.message ≡ false → NamesJudged (other_judged judged) unit.truth.tag
  pub binds : MessageBinds (other_out out) unit.packet.message
  pub there_is : NamesJudged (other_judged (there_are here there)) unit.truth.tag

pub unit_more : (out : LeftOut) (judged : Judged) (here more_here there more_there : ℕ) (unit : SentMessage) → here ≤ more_here →
    there ≤ more_there →
    UnitRight out judged here there unit → UnitRight out judged more_here more_there unit
unit_more out judged here more_here there more_there unit grows_here grows_there u = record {
  stays = u.stays;
  named = u.named;
  binds = u.binds;
  there_is = record {
    link = named_more (below here) (below more_here) (λ n is. below_more here more_here n grows_here is) unit.truth.tag.link u.there_is.link;
    partner = named_more (below there) (below more_there)
        (λ n is. below_more there more_there n grows_there is) unit.truth.tag.partner u.there_is.partner;
  };
}

module _ (queues : Queues) (out : LeftOut) (judged : Judged) (s : Links) (fit : AreFit out judged s) (there : ℕ)
    (known : AreFit nothing_out (there_are (length s.links) there) s) (packet : Carried) (made : Sent TrueSegments Numbers)
    (made_is : links_sent queues s packet ≡ Ok made) where
  told : MessageTold out packet.message
  told =
      subst (IfMade (λ (x : Sent TrueSegments Numbers). MessageTold out packet.message)) made_is
      (sent_told out queues true_segments judged s fit packet)

  pub unit_sent : UnitRight out judged (length s.links) there (record { packet = packet; truth = made.truth })
  unit_sent = record {
    stays = told_stays out packet.message told;
    named = λ is. of_tag judged (subst (IfMade (IsTagged (true_rules queues) out judged s fit true)) made_is (sent_tagged
        (true_rules queues) out judged s fit true packet is));
    binds = told_binds out packet.message told;
    there_is =
        let all = there_are (length s.links) there in
        of_tag all (subst (IfMade (IsTagged (true_rules queues) nothing_out all s known true)) made_is
        (sent_tagged (true_rules queues) nothing_out all s known true packet (none_out packet.message)));
  }
    where
      of_tag : (j : Judged) → IfSome made.truth.tag.link (λ n. j.here n ≡ true) × (true ≡ true → IsOfJudged j.there made.truth.tag.partner) →
          NamesJudged (other_judged j) made.truth.tag
      of_tag j tagged = record { link = tagged.0; partner = tagged.1 refl }
