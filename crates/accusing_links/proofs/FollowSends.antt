-- What is sent keeps it what is known of a link's last acknowledgement sent; and words alone then lie on from there.
use Rattle.accusing_links.proofs.Prelude.{◌≡◌, ℕ, Bool, true, false, ◌&&◌, ◌||◌, ◌⊎◌, inl, inr, not, Option, Some, None, List, refl, ap, subst, ◌∙◌}
use Rattle.accusing_links.proofs.Prelude.{slice_get, and_parts, AckWord, NspValue, DataSegment, DataAck, DisconnectConfirm, IsInRange, Phase}
use Rattle.accusing_links.proofs.Prelude.{Called, Running, Port, TheLink, CalledBy, Queues, Without, With, Said, is_live, has_both, LinkOf, Carried}
use Rattle.accusing_links.proofs.Prelude.{in_use, port_of_waiting, may_send, is_over, has_waiting, drops, sending_row, WireSegments, wire_segments}
use Rattle.accusing_links.proofs.Prelude.{WireLinks, wire_links_sent, of_none, Sent}
use Rattle.accusing_links.proofs.{Answered.Good, Each.each_at, Received.Received, Sends.AreOnward, Sends.sends_acks_good, RightLinks.Numbers}
use Rattle.accusing_links.proofs.{LinkRows.IsSmall, FarLinks.IsOther, FarLinks.NoneTo, AllFollow.AreKnown}
use Rattle.accusing_links.proofs.Finds.{Found, IsInUse, in_live, the_link, called_by}
use Rattle.accusing_links.proofs.Along.{SendShows, lasting_sends, sent_tells}
use Rattle.accusing_links.proofs.Rows.{IsCalmRow, calm_sends, sent_kept, always_sends}
use Rattle.accusing_links.proofs.Follows.{IsCalm, drops_follows, live_keeps, keeps, IsKnown}
use Rattle.accusing_links.proofs.FollowRows.{Are, IsNow, blank_now, keep, all_keep}

-- ---- ports

not_over : (said : Said) (b : Bool) → not (is_over said) ≡ true → not (is_over said && b) ≡ true
not_over said b e = go (is_over said) e
  where
    go : (a : Bool) → not a ≡ true → not (a && b) ≡ true
    go true e = absurd cc
    go false e = refl

waits_keeps : (waits : Option Phase) (l : LinkOf WireSegments) → l.queue.waits ≡ waits → is_live (port_of_waiting waits l.port).phase ≡ true →
    not (is_over l.queue.said) ≡ true → keeps With l ≡ true
waits_keeps None l at live opened = live_keeps With l live
waits_keeps (Some phase) l at live opened = go (is_live l.port.phase)
  where
    go : (b : Bool) → (b || has_waiting l.queue.waits l.queue.said) ≡ true
    go true = refl
    go false = ap (λ (w : Option Phase). has_waiting w l.queue.said) at ∙ not_over l.queue.said _ opened

-- a link of which a message of RUN is sent
run_keeps : (q : Queues) (l : LinkOf WireSegments) (port : Port) → (port ≡ l.port) ⊎ (port ≡ in_use q l) → is_live port.phase ≡ true →
    may_send q Running l ≡ true → keeps q l ≡ true
run_keeps Without l port which live may = in_live Running l.port.phase may refl
run_keeps With l port which live may = go which
  where
    go : (port ≡ l.port) ⊎ (port ≡ in_use With l) → keeps With l ≡ true
    go (inl same) = live_keeps With l (subst (λ (p : Port). is_live p.phase ≡ true) same live)
    go (inr same) =
        waits_keeps l.queue.waits l refl (subst (λ (p : Port). is_live p.phase ≡ true) same live)
        (and_parts l.queue.ran (not (is_over l.queue.said)) may).1

-- ---- of a message that has words, if it is of this link

module _ (own far : ℕ) (X : List AckWord → Type 0) where
  abbrev pub Says : NspValue → Type 0
  Says (DataSegment s) = s.srcaddr ≡ own → s.dstaddr ≡ far → X s.acks
  Says (DataAck dst src acks) = src ≡ own → dst ≡ far → X acks
  Says m = Unit {0}

  -- of words alone
  abbrev pub SaysAlone : NspValue → Type 0
  SaysAlone (DataAck dst src acks) = src ≡ own → dst ≡ far → X acks
  SaysAlone m = Unit {0}

module _ (queues : Queues) (s : WireLinks) where
  -- the row is of this link, which may send a message of RUN
  pub record IsOf (to from n : ℕ) (l : LinkOf WireSegments) : Type 0 where
    pub there : slice_get s.links n ≡ Some l
    pub from_own : l.port.own ≡ Some from
    pub to_far : l.port.far ≡ Some to
    pub kept_on : keeps queues l ≡ true
    pub may : may_send queues Running l ≡ true

  pub is_of : (to from n : ℕ) (l : LinkOf WireSegments) → IsInUse queues s (TheLink from to) n l → may_send queues Running l ≡ true →
      IsOf to from n l
  is_of to from n l used may =
      let both = the_link from to n l used in
      record {
        there = used.there;
        from_own = both.0;
        to_far = both.1;
        kept_on = run_keeps queues l used.port used.which (and_parts (is_live used.port.phase) (has_both used.port from to) used.passes).0 may;
        may = may;
      }

pub here : (x y : ℕ) (o : Option ℕ) → o ≡ Some x → x ≡ y → o ≡ Some y
here x y o e same = subst (λ (z : ℕ). o ≡ Some z) same e

module _ (N : Numbers) (queues : Queues) (own far : ℕ) (s : WireLinks) where
  abbrev Q : ℕ → Type 0
  Q = N own far

  -- ---- what stays known

  module _ (least : ℕ) where
    abbrev AreNow : Sent WireSegments (Unit {0}) → Type 0
    AreNow made = Are queues own far least Q s made.links

    abbrev Shown : NspValue → Type 0
    Shown m = SendShows queues (of_none queues wire_segments) s (λ es. IsNow queues own far least Q s) (sending_row m)

    calm : (m : NspValue) → IsCalmRow IsSmall (IsCalm queues own far least Q) (sending_row m) → Shown m
    calm m is =
        calm_sends queues s (IsNow queues own far least Q s) IsSmall (IsCalm queues own far least Q) (of_none queues wire_segments)
        (keep queues own far least Q s (of_none queues wire_segments)) (sending_row m) is

    message_shows : (m : NspValue) → IsInRange m → Shown m
    message_shows (DataSegment segment) small = calm (DataSegment segment) (assumption small)
    message_shows (DataAck dst src acks) small = calm (DataAck dst src acks) (assumption small)
    -- which may end a call
    message_shows (DisconnectConfirm dst src reason) small =
        lasting_sends queues (of_none queues wire_segments) s (λ es. IsNow queues own far least Q s)
        (sending_row (DisconnectConfirm dst src reason)) refl
        (tt, (blank_now queues own far least Q s, (blank_now queues own far least Q s, ended)))
      where
        ended : (n : ℕ) (l : LinkOf WireSegments) → Found s (CalledBy dst) n l →
            IsNow queues own far least Q s (Some n) (drops wire_segments queues l)
        ended n l found = (
          l,
          found.there,
          drops_follows queues own far least Q queues refl l (live_keeps queues l (in_live Called l.port.phase (called_by dst n l s found) refl)),
        )
    message_shows m small = calm m assumption

    pub sent_follows : (packet : Carried) → IsInRange packet.message → Good AreNow (wire_links_sent queues s packet)
    sent_follows packet small =
        sent_kept queues s (IsNow queues own far least Q s) (Are queues own far least Q s) (all_keep queues own far least Q s) packet
        (message_shows packet.message small)

  -- ---- where no link has the far address nothing of it is sent

  none_shows : NoneTo far s.links → (m : NspValue) →
      SendShows queues (of_none queues wire_segments) s (λ es n l. Says own far (λ words. ⊥) m) (sending_row m)
  none_shows none (DataSegment segment) = λ n l used turn f gap made e g.
      each_at (IsOther far) s.links n l none used.there (here segment.dstaddr far l.port.far (the_link segment.srcaddr segment.dstaddr n l used).1 g)
  none_shows none (DataAck dst src acks) = λ n l used turn sent gap made e g.
      each_at (IsOther far) s.links n l none used.there (here dst far l.port.far (the_link src dst n l used).1 g)
  none_shows none m = always_sends queues s (Unit {0}) tt (of_none queues wire_segments) (sending_row m)

  pub sent_none : NoneTo far s.links → (packet : Carried) →
      Good (λ (made : Sent WireSegments (Unit {0})). Says own far (λ words. ⊥) packet.message) (wire_links_sent queues s packet)
  sent_none none packet = sent_tells queues s packet (Says own far (λ words. ⊥) packet.message) (none_shows none packet.message)

  -- ---- words alone lie on from what is known

  module _ (least : ℕ) (known : AreKnown queues own far least Q s.links) where
    known_of : (to from n : ℕ) (l : LinkOf WireSegments) → IsOf queues s to from n l → from ≡ own → to ≡ far → Received least Q l.segments
    known_of to from n l is e f =
        (each_at (IsKnown queues own far least Q) s.links n l known is.there (here to far l.port.far is.to_far f) is.kept_on).received
        (here from own l.port.own is.from_own e)

    onward_shows : (m : NspValue) → IsInRange m →
        SendShows queues (of_none queues wire_segments) s (λ es n l. SaysAlone own far (AreOnward least Q) m) (sending_row m)
    onward_shows (DataAck dst src acks) small = λ n l used turn sent gap made e g.
        (sends_acks_good least Q l.segments (known_of dst src n l (is_of queues s dst src n l used turn) e g) acks small.0 sent made).3
    onward_shows m small = always_sends queues s (Unit {0}) tt (of_none queues wire_segments) (sending_row m)

    pub sent_onward : (packet : Carried) → IsInRange packet.message →
        Good (λ (made : Sent WireSegments (Unit {0})). SaysAlone own far (AreOnward least Q) packet.message) (wire_links_sent queues s packet)
    sent_onward packet small =
        sent_tells queues s packet (SaysAlone own far (AreOnward least Q) packet.message) (onward_shows packet.message small)
