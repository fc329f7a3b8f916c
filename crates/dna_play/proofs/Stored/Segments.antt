-- What a message that came makes of the links of an end of the player, and what its user gets then, is what it makes of those that are kept.
use Rattle.dna_play.proofs.Prelude.{◌≡◌, ℕ, ◌+◌, true, Option, Some, List, [], ◌∷◌, Result, Ok, refl, sym, ap, ◌∙◌, subst, arith, le-leb, slice_get}
use Rattle.dna_play.proofs.Prelude.{length, and_parts, drop-drop, set-set, NspValue, SegmentValue, DataSegment, User, LinkRefusal, CrossedLink}
use Rattle.dna_play.proofs.Prelude.{Station, Without, Running, LinkTest, ActedOn, is_connected, is_at, has_both, in_whole_messages, LinkOf}
use Rattle.dna_play.proofs.Prelude.{LinkTruth, check, changed, in_phase, with_segments, of_partner, is_of_pair, message_arrived, running}
use Rattle.dna_play.proofs.Prelude.{TrueSegments, Numbers, takes_segment, true_segments, Links, WireSegments, acknowledged_by_all, segment_taken}
use Rattle.dna_play.proofs.Prelude.{IsOrdered, ArrivesNear, LinkOwed, DataAckDuty, with_duty, LinkEnd, complete, StoredLinks, Delivering}
use Rattle.dna_play.proofs.Prelude.{delivering_none, delivering_at, took_segment, message_came, arrived, up_address, ups, all_short}
use Rattle.dna_play.proofs.Prelude.{takes_segment_same, at_is, set_same, IsFound, checked, MAX_MESSAGE}
use Rattle.capture_record.specs.declared.event.Event.TheVariants as events
use Rattle.dna_links.specs.CutSegments.{cut}
use Rattle.dna_play.specs.StoredLinks as keeping
use Rattle.dna_play.proofs.Played.Steps.{PlayHalf, MakesAll, Nothing}
use Rattle.dna_play.proofs.Links.Pays.{variables_of, end_of, OwedFits, found_at, with_found, without_found}
use Rattle.dna_play.proofs.{Links.Fits.IsPlain, Links.Stage.LinkHolds, Links.Stage.set_holds, Ends.Stage.ordered_of, Stored.Now.StoredNow}
use Rattle.dna_play.proofs.{Stored.Now.facts_of, Ends.TrueEnd.End, Ends.TrueEnd.links_of, Played.PlayLines.line_told}
use Rattle.dna_play.proofs.{Stored.Deliveries.segments_got, Stored.Deliveries.gets_made}
use Rattle.dna_play.proofs.Links.Owing.{duty_fits, still_fits, still_owed}
use Rattle.dna_play.proofs.Links.Goes.{Goes, SegmentsGo, runs_on}
use Rattle.dna_play.proofs.Links.Goes as goes
use Rattle.dna_play.proofs.Links.Keeps.{At, is_kept, acted_on_lives, look}
use Rattle.dna_play.proofs.Links.Comes.{EndsHold, message_holds, acted_end}
use Rattle.dna_play.proofs.Ends.UpsFollow.{AllLined, AreDistinct, IsLined}

-- each message that is whole has a line
lined_short : (address : ℕ) (messages : List (List ℕ)) → AllLined address messages → all_short messages ≡ true
lined_short address [] lined = refl
lined_short address (message ∷ later) lined = rw (le-leb (length message) MAX_MESSAGE (line_told (User (events.Up address message)) lined.0).short)
    (lined_short address later lined.1)

-- the half that a receipt leaves, with this station and these links
abbrev pub left_half : End → Station → Links → PlayHalf
left_half own station links = record {
  state = record own.half.state { station = record own.half.state.station { station = station; links = links }; front = own.passed + 1 };
  sent = own.half.sent;
}

-- what is whole then is delivered, and numbers go on as they did
got_goes : (f g : TrueSegments) (messages : List (List ℕ)) → SegmentsGo f g → SegmentsGo f (segments_got g messages)
got_goes f g messages goes = record {
  fits = λ h. let fits = goes.fits h in record { unsent = fits.unsent; given = fits.given };
  moves = λ o. let m = goes.moves o in record { given = m.given; least = m.least; most = m.most };
}

module _ (own other : End) (now : StoredNow own other) (station : Station) where
  abbrev s : Links
  s = links_of own.half

  h : LinkHolds s.links own.addresses own.links
  h = now.stage.links

  ordered : (i : ℕ) (l : LinkOf TrueSegments) → slice_get s.links i ≡ Some l → IsOrdered l.segments
  ordered = ordered_of s.links (facts_of now).known.numbers

  -- of these links that were left: what the user gets is delivered, and what is kept then is kept of those that are left then
  pub record GotBy (links : Links) (address : ℕ) (d : Delivering) : Type 0 where
    pub final : Links
    pub gets : MakesAll other.half (left_half own station links) (ups address d.messages) (left_half own station final)
    pub holds : LinkHolds final.links own.addresses d.links
    pub short : all_short d.messages ≡ true

  abbrev pub Got : Links → Option NspValue → Type 0
  Got links message = GotBy links (up_address message) (arrived message own.links)

  -- nothing is whole
  pub nothing_got : (links : Links) (address : ℕ) (kept : StoredLinks) → LinkHolds links.links own.addresses kept →
      GotBy links address (delivering_none kept)
  nothing_got links address kept holds = record { final = links; gets = Nothing; holds = holds; short = refl }

  -- ---- a segment

  module _ (segment : SegmentValue) (truth : LinkTruth Numbers) where
    abbrev test : LinkTest
    test = ActedOn segment.dstaddr segment.srcaddr

    abbrev take_kept : ℕ → LinkEnd → Delivering
    take_kept place link = delivering_at place (took_segment segment link) own.links

    module _ (n place : ℕ) (l : LinkOf TrueSegments) (o : LinkOwed) (found : IsFound test s n l) (at_it : At l o n place s.links own.links.links)
        (same : (cut (takes_segment segment truth.known l.segments)).variables
        ≡ segment_taken segment (acknowledged_by_all segment.acks (variables_of l)))
      where
        abbrev k : LinkOf TrueSegments
        k = with_segments (takes_segment segment truth.known l.segments) (in_phase Running l)

        abbrev x : Links
        x = changed n k s

        abbrev left_owes : LinkOwed
        left_owes = with_duty DataAckDuty true (still_owed l k o)

        at : has_both l.port segment.dstaddr segment.srcaddr ≡ true
        at = (and_parts (is_connected l.port.phase) (has_both l.port segment.dstaddr segment.srcaddr) found.passed).1

        at_own : is_at l.port.own segment.dstaddr ≡ true
        at_own = (and_parts (is_at l.port.own segment.dstaddr) (is_at l.port.far segment.srcaddr) at).0

        there : slice_get x.links n ≡ Some k
        there = set_same s.links n l k found.there

        took : end_of k left_owes ≡ took_segment segment (end_of l o)
        took = ap (keeping.owes DataAckDuty)
            (acted_end l (takes_segment segment truth.known l.segments) o (segment_taken segment (acknowledged_by_all segment.acks (variables_of l)))
            same)

        abbrev messages : List (List ℕ)
        messages = complete [] (variables_of k).pieces

        abbrev got : LinkOf TrueSegments
        got = with_segments (segments_got k.segments messages) k

        got_goes_on : Goes own.addresses l got
        got_goes_on = runs_on own.addresses l (segments_got k.segments messages)
            (and_parts (is_connected l.port.phase) (has_both l.port segment.dstaddr segment.srcaddr) found.passed).0
            (got_goes l.segments k.segments messages (goes.took_segment l.segments segment truth.known))

        got_owes : OwedFits got left_owes
        got_owes =
            let in_order = ordered n l found.there in
            let moves = (goes.took_segment l.segments segment truth.known).moves in_order in
            let f = duty_fits k (still_owed l k o) DataAckDuty refl (still_fits l k o in_order moves (is_kept at_it).owes) in
            record { duties = f.duties; ahead = f.ahead }

        got_holds : LinkHolds (changed n got x).links own.addresses (delivering_at place (end_of k left_owes) own.links).links
        got_holds = rw (set-set s.links n k got, drop-drop (in_whole_messages (variables_of k).pieces) k.segments.passed k.segments.received)
            (set_holds s own.addresses own.links h at_it got left_owes own.addresses (omega arith) got_goes_on refl got_owes)

        module _ (distinct : AreDistinct x.links) (lined : IsLined x (DataSegment segment)) where
          only : (j : ℕ) (m : LinkOf TrueSegments) → slice_get x.links j ≡ Some m → is_at m.port.own segment.dstaddr ≡ true → j ≡ n
          only j m here e = distinct j n segment.dstaddr (record { link = m; there = here; owns = at_is m.port.own segment.dstaddr e })
              (record { link = k; there = there; owns = at_is l.port.own segment.dstaddr at_own })

          still_found : IsFound test x n k
          still_found = found_at x test n k there at (λ j m here e.
              let both = (and_parts (is_connected m.port.phase) (has_both m.port segment.dstaddr segment.srcaddr) e).1 in
              only j m here (and_parts (is_at m.port.own segment.dstaddr) (is_at m.port.far segment.srcaddr) both).0)

          segment_found : GotBy x segment.dstaddr (take_kept place (end_of l o))
          segment_found = subst (λ (link : LinkEnd). GotBy x segment.dstaddr (delivering_at place link own.links)) took (record {
            final = changed n got x;
            gets = gets_made other.half segment.dstaddr n messages (left_half own station x) k (lined n k still_found) there at_own only refl;
            holds = got_holds;
            short = lined_short segment.dstaddr messages (lined n k still_found);
          })

  -- ---- a message

  module _ (truth : LinkTruth Numbers) (left : Links) where
    same_links : (x : Links) → ◌≡◌ {A = Result Links LinkRefusal} (Ok x) (Ok left) → x ≡ left
    same_links x e = cc

    segment_got : (segment : SegmentValue) → ArrivesNear of_partner s (DataSegment segment) truth →
        message_arrived Without true_segments of_partner s (DataSegment segment) truth ≡ Ok left → AreDistinct left.links →
        IsLined left (DataSegment segment) → Got left (Some (DataSegment segment))
    segment_got segment near does distinct lined =
        look (ActedOn segment.dstaddr segment.srcaddr) (acted_on_lives segment.dstaddr segment.srcaddr)
        (GotBy left segment.dstaddr) s own.links h.keeps
        (delivering_none own.links) (take_kept segment truth)
        (λ none. subst (λ (x : Links). GotBy x segment.dstaddr (delivering_none own.links))
        (same_links s (sym (without_found s (ActedOn segment.dstaddr segment.srcaddr) (Ok s) goes_on none) ∙ does))
        (nothing_got s segment.dstaddr own.links h)) found_it
      where
        takes : LinkOf TrueSegments → TrueSegments
        takes link = takes_segment segment truth.known link.segments

        goes_on : ℕ → LinkOf TrueSegments → Result Links LinkRefusal
        goes_on number link = check (of_partner (is_of_pair number link.partner truth.tag)) CrossedLink
            (Ok (changed number (running true_segments of_partner takes link) s))

        found_it : (n place : ℕ) (l : LinkOf TrueSegments) (o : LinkOwed) → IsFound (ActedOn segment.dstaddr segment.srcaddr) s n l →
            At l o n place s.links own.links.links → GotBy left segment.dstaddr (take_kept segment truth place (end_of l o))
        found_it n place l o found at =
            let c = checked (of_partner (is_of_pair n l.partner truth.tag)) CrossedLink
            (Ok (changed n (running true_segments of_partner takes l) s)) left
            (sym (with_found s (ActedOn segment.dstaddr segment.srcaddr) n l (Ok s) goes_on found) ∙ does) in
            let m = near n l found.there found.passed c.0 in
            let is = takes_segment_same segment truth.known l.segments (ordered n l found.there) m.0 m.1 m.2 m.3 in
            subst (λ (x : Links). AreDistinct x.links → IsLined x (DataSegment segment) →
            GotBy x segment.dstaddr (take_kept segment truth place (end_of l o)))
            (same_links (changed n (running true_segments of_partner takes l) s) c.1)
            (λ distinct lined. segment_found segment truth n place l o found at (ap (λ (w : WireSegments). w.variables) is) distinct lined)
            distinct lined

    pub message_got : (m : NspValue) → IsPlain m → EndsHold s own.addresses m → ArrivesNear of_partner s m truth →
        message_arrived Without true_segments of_partner s m truth ≡ Ok left → AreDistinct left.links → IsLined left m → Got left (Some m)
    message_got (DataSegment segment) plain ends near does distinct lined = segment_got segment near does distinct lined
    message_got m plain ends near does distinct lined = nothing_got left (up_address (Some m)) (message_came m own.links)
        (message_holds s own.addresses own.links h ordered truth left m tt plain ends near does)
