-- What is due at a link of the player may be sent; and what its message makes of the link that has sent it, as its node keeps it.
use Rattle.dna_play.proofs.Prelude.{◌≡◌, ℕ, ◌+◌, ◌≤◌, true, false, ◌&&◌, ◌||◌, not, eqb, nat_lt, Option, Some, None, [], ◌∷◌, length, Result, Ok}
use Rattle.dna_play.proofs.Prelude.{Err, refl, sym, ap, ◌∙◌, arith, length-append, le-ltb, ltb-true, eqb-true, both_true, slice_get, is_some}
use Rattle.dna_play.proofs.Prelude.{slice_get_none, and_parts, slice_get_within, LinkRefusal, NoLink, Without, Phase, Calling, Called, Confirming}
use Rattle.dna_play.proofs.Prelude.{Running, Disconnecting, TheLink, OpenedAt, BegunBy, is_live, is_calling, is_confirming, is_running}
use Rattle.dna_play.proofs.Prelude.{is_disconnecting, is_at, Sending, REACH, Piece, has_more, next_piece, SEGSIZE, LinkOf, changed, with_segments}
use Rattle.dna_play.proofs.Prelude.{message_sent, unchanged, carries, in_run, segment_of, TrueSegments, Numbers, true_segments, sends_segment}
use Rattle.dna_play.proofs.Prelude.{Links, IsOrdered, IsAnswered, LinkOwed, Duty, ConnectAckDuty, InitiateDuty, ConfirmDuty, DisconnectDuty}
use Rattle.dna_play.proofs.Prelude.{DataAckDuty, SegmentDuty, LinkEnd, has_new, has_repeat, ack_of, address, piece_to_send, segment_with}
use Rattle.dna_play.proofs.Prelude.{duty_message, gave, gave_by, IsFound, at_is, LinkList, AreAddressed}
use Rattle.dna_links.specs.Sending.{Sent}
use Rattle.dna_play.proofs.{Links.Lists.set_back, Links.Goes.SegmentsGo, Links.Goes.stays_as_it_is}
use Rattle.dna_play.proofs.Links.Pays.{end_of, fits_in, OwedFits, IsDue, DueFlag, DueSegment, known_at, is_there, running_is, found_at, some_found}
use Rattle.dna_play.proofs.Links.Pays.{with_found, right_may}
use Rattle.dna_play.proofs.Links.Fits.{LinkFits, fits_as, next_fits}
use Rattle.dna_play.proofs.Links.SegmentsPay.{MaySend, data_ack_may, again_may, new_may}

-- this is sent by the link, and makes this of it
pub record DutyMade (s : Links) (n : ℕ) (l : LinkOf TrueSegments) (o : LinkOwed) (duty : Duty) : Type 0 where
  pub made : Sent TrueSegments Numbers
  pub sent : message_sent Without true_segments s (duty_message duty (end_of l o)) ≡ Ok made
  pub segments : TrueSegments
  pub links : made.links ≡ changed n (with_segments segments l) s
  pub acknowledged : segments.acknowledged ≡ l.segments.acknowledged
  pub is : end_of (with_segments segments l) o ≡ gave_by duty (end_of l o)
  pub goes : SegmentsGo l.segments segments

-- a segment that has gone is among those sent in this go
pub gave_ahead : (link : LinkEnd) → link.owed.ahead ≤ length link.variables.outstanding →
    link.owed.ahead + 1 ≤ length (gave_by SegmentDuty link).variables.outstanding
gave_ahead link within = go (slice_get link.variables.outstanding link.owed.ahead) refl
  where
    go : (again : Option Piece) → slice_get link.variables.outstanding link.owed.ahead ≡ again →
        link.owed.ahead + 1 ≤ length (gave again link).variables.outstanding
    go None at = let more = length-append link.variables.outstanding (next_piece link.variables.unsent ∷ []) in omega arith
    go (Some p) at = let less = slice_get_within link.variables.outstanding link.owed.ahead p at in omega arith

module _ (s : Links) (others : LinkList) (most : ℕ) (addressed : AreAddressed s.links others most) (n : ℕ) (l : LinkOf TrueSegments)
    (there : slice_get s.links n ≡ Some l) (fits : LinkFits l) (o : LinkOwed) (pays : OwedFits l o)
    (ordered : IsOrdered l.segments) (answered : IsAnswered l.segments) where
  abbrev own : ℕ
  own = address l.port.own

  abbrev far : ℕ
  far = address l.port.far

  -- no other link has its own address
  only : is_some l.port.own ≡ true → (j : ℕ) (m : LinkOf TrueSegments) → slice_get s.links j ≡ Some m → is_at m.port.own own ≡ true → j ≡ n
  only is j m at e = addressed.distinct j n own (record { link = m; there = at; owns = at_is m.port.own own e })
      (record { link = l; there = there; owns = known_at l.port.own is })

  -- in this phase
  in_it : (phase : Phase) → l.port.phase ≡ phase → fits_in phase l ≡ true
  in_it phase is = fits_as l phase is fits.shape

  -- a link that knows both addresses
  both : (phase : Phase) → l.port.phase ≡ phase → is_live phase ≡ true →
      (is_some l.port.own && (is_some l.port.far && eqb l.segsize SEGSIZE)) ≡ true → IsFound (TheLink own far) s n l
  both phase is live knows =
      let p = and_parts (is_some l.port.own) _ knows in
      found_at s (TheLink own far) n l there
      (both_true (ap is_live is ∙ live)
      (both_true (is_there _ _ (known_at l.port.own p.0)) (is_there _ _ (known_at l.port.far (and_parts (is_some l.port.far) _ p.1).0))))
      (λ j m at e. only p.0 j m at (and_parts (is_at m.port.own own) (is_at m.port.far far) (and_parts (is_live m.port.phase) _ e).1).0)

  abbrev it : LinkEnd
  it = end_of l o

  -- a message that leaves the links as they are
  abbrev still : ℕ → LinkOf TrueSegments → Result (Sent TrueSegments Numbers) LinkRefusal
  still number link = Ok (unchanged true_segments s number link)

  unmoved : (duty : Duty) → gave_by duty it ≡ it → (number : ℕ) (link : LinkOf TrueSegments) →
      message_sent Without true_segments s (duty_message duty it) ≡ Ok (unchanged true_segments s number link) → DutyMade s n l o duty
  unmoved duty none number link sent = record {
    made = unchanged true_segments s number link;
    sent = sent;
    segments = l.segments;
    links = ap (λ (all : LinkList). record s { links = all }) (sym (set_back s.links n l there));
    acknowledged = refl;
    is = sym none;
    goes = stays_as_it_is l.segments;
  }

  -- in RUN, where its segments may be sent
  moved : (duty : Duty) → l.port.phase ≡ Running → (sends : LinkOf TrueSegments → Result (Sending TrueSegments Numbers) LinkRefusal) →
      MaySend it l.segments (sends l) (gave_by duty it) →
      message_sent Without true_segments s (duty_message duty it) ≡ in_run true_segments own far sends s → DutyMade s n l o duty
  moved duty is sends m of_it = record {
    made = _;
    sent = of_it ∙ right_may s (TheLink own far) is_running (λ number link. carries true_segments s number link (sends link)) n l
        (both Running is refl (in_it Running is)) (ap is_running is) ∙ ap (carries true_segments s n l) m.is;
    segments = m.sent.segments;
    links = refl;
    acknowledged = m.acknowledged;
    is = m.left;
    goes = m.goes;
  }

  segment_may : SEGSIZE ≤ l.segsize → (has_repeat it || has_new it) ≡ true → (again : Option Piece) →
      slice_get it.variables.outstanding o.ahead ≡ again →
      MaySend it l.segments (sends_segment l.segsize (segment_with it (piece_to_send again it.variables.unsent)) l.segments) (gave again it)
  segment_may wide due (Some p) at = again_may l.port l.segments o ordered l.segsize p at
  segment_may wide due None at =
      let beyond = slice_get_none it.variables.outstanding o.ahead at in let within = pays.ahead in
      let none : has_repeat it ≡ false = le-ltb o.ahead (length it.variables.outstanding) beyond in
      let parts = and_parts (nat_lt (length it.variables.outstanding) REACH) (has_more it.variables.unsent.messages) (rw none at due) in
      new_may l.port l.segments o ordered l.segsize wide (ltb-true _ _ parts.0) (omega arith) parts.1
      (next_fits l.segments.unsent.begun l.segments.unsent.messages fits.segments.unsent)

  -- what is due may be sent
  pub duty_made : (duty : Duty) → IsDue it duty → DutyMade s n l o duty
  duty_made ConnectAckDuty (DueFlag is) =
      let phase = pays.duties ConnectAckDuty is in
      let p = and_parts (not l.port.opened) _ (in_it Called phase) in
      some_found s (BegunBy far) n l there
      (both_true (ap is_live phase) (both_true p.0 (is_there _ _ (known_at l.port.far (and_parts (is_some l.port.far) _ p.1).0))))
      (λ number link found. unmoved ConnectAckDuty refl number link (with_found s (BegunBy far) number link (Err NoLink) still found))
  duty_made InitiateDuty (DueFlag is) =
      let phase = pays.duties InitiateDuty is in
      let p = and_parts l.port.opened (is_some l.port.own) (in_it Calling phase) in
      unmoved InitiateDuty refl n l (right_may s (OpenedAt own) is_calling still n l
      (found_at s (OpenedAt own) n l there (both_true (ap is_live phase) (both_true p.0 (is_there _ _ (known_at l.port.own p.1))))
      (λ j m at e. only p.1 j m at (and_parts m.port.opened (is_at m.port.own own) (and_parts (is_live m.port.phase) _ e).1).1))
      (ap is_calling phase))
  duty_made ConfirmDuty (DueFlag is) =
      let phase = pays.duties ConfirmDuty is in
      let found = both Confirming phase refl (in_it Confirming phase) in
      unmoved ConfirmDuty refl n l (right_may s (TheLink own far) is_confirming still n l found (ap is_confirming phase))
  duty_made DisconnectDuty (DueFlag is) =
      let phase = pays.duties DisconnectDuty is in
      let found = both Disconnecting phase refl (in_it Disconnecting phase) in
      unmoved DisconnectDuty refl n l (right_may s (TheLink own far) is_disconnecting still n l found (ap is_disconnecting phase))
  duty_made DataAckDuty (DueFlag is) =
      moved DataAckDuty (pays.duties DataAckDuty is) (λ link. true_segments.sends_acks (ack_of it.variables.received ∷ []) link.segments)
      (data_ack_may l.port l.segments o ordered answered) refl
  duty_made SegmentDuty (DueFlag is) = absurd cc
  duty_made SegmentDuty (DueSegment running due) =
      let is = running_is l.port.phase running in
      let wide = eqb-true l.segsize SEGSIZE (and_parts (is_some l.port.far) _ (and_parts (is_some l.port.own) _ (in_it Running is)).1).1 in
      let again = slice_get it.variables.outstanding o.ahead in
      moved SegmentDuty is (segment_of true_segments (segment_with it (piece_to_send again it.variables.unsent)))
      (segment_may (omega arith) due again refl) refl
