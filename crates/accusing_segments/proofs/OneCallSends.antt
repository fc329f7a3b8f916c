-- What is sent keeps it that one link alone has these addresses; and a segment of it agrees with what was sent under its number, or may be
-- acknowledged.
use Rattle.accusing_segments.proofs.Prelude.{◌≡◌, ℕ, ◌<◌, Bool, true, false, ◌&&◌, eqb, Option, Some, None, List, [], ◌∷◌, refl, sym, subst, ap}
use Rattle.accusing_segments.proofs.Prelude.{◌∙◌, not, eqb-true, fold, ◌⊎◌, inl, inr, slice_get, slice_set, and_parts, and_from, eq-eqb}
use Rattle.accusing_segments.proofs.Prelude.{SegmentValue, NspValue, DataSegment, DisconnectConfirm, IsInRange, Phase, Called, Running, TheLink}
use Rattle.accusing_segments.proofs.Prelude.{Queues, Without, With, OfRun, is_live, is_in, has_both, LinkOf, Carried, with_segments, with_queue}
use Rattle.accusing_segments.proofs.Prelude.{may_send, is_over, port_of_waiting, Piece, piece_of, Effect, Say, Keep, sending_row, WireSegments}
use Rattle.accusing_segments.proofs.Prelude.{wire_segments, WireLinks, wire_links_sent, blank, kept, after, of_none, does, Sent, Good, each_at}
use Rattle.accusing_segments.proofs.Prelude.{IsInUse, HasBoth, in_live, the_link, called_by, OfRow, SentBy, SendShows, lasting_sends, sent_good}
use Rattle.accusing_segments.proofs.Prelude.{sent_tells, calm_sends, always_sends, is_early}
use Rattle.accusing_segments.proofs.{Gave.Gave, Places.set_place, SegmentSends.Gone, SentAgain.Agrees, SentAgain.sent_kept, LinkRows.IsQuiet}
use Rattle.accusing_segments.proofs.{LinkSends.turn_late, Used.found_used, Used.late_not_called}
use Rattle.accusing_segments.proofs.SentPieces.{Shown, Covered, Fits}
use Rattle.accusing_segments.proofs.RightLinks.{Links, IsLinkRight, AreRight}
use Rattle.accusing_segments.proofs.EachLink.{IsPlain, ArePlain, IsAt, All, all_done, keeps, after_stays}
use Rattle.accusing_segments.proofs.OneCall.{IsUsed, used_live, IsDead, IsMine, none_mine, dropped_mine, stays}

-- this message is such a segment
abbrev pub IsOf : (own far : ℕ) → NspValue → Shown
IsOf own far (DataSegment s) n p = ((s.srcaddr ≡ own) × (s.dstaddr ≡ far)) × ((n ≡ s.number) × (p ≡ piece_of s))
IsOf own far m n p = ⊥

-- a link in the turn of RUN can send
not_dead : (q : Queues) (l : LinkOf WireSegments) → IsUsed q l → may_send q Running l ≡ true → IsDead q l → ⊥
not_dead Without l used may dead = absurd cc
not_dead With l used may (over, inr said) = let so = (and_parts l.queue.ran (not (is_over l.queue.said)) may).1 in absurd cc
not_dead With l (inr live) may (over, inl none) = absurd cc
not_dead With l (inl waiting) may (over, inl none) =
    let same : is_live (port_of_waiting l.queue.waits l.port).phase ≡ is_live l.port.phase =
    ap (λ (w : Option Phase). is_live (port_of_waiting w l.port).phase) none in
    let live : is_live l.port.phase ≡ true = sym same ∙ waiting in
    absurd cc

module _ (queues : Queues) (own far : ℕ) (S T : Shown) (Qs : Links) (one : Option ℕ) (any : (m : SegmentValue) → Gone (Qs own far) m)
    (s : WireLinks) (old : AreRight Qs queues s.links) where
  abbrev Mine : ℕ → LinkOf WireSegments → Type 0
  Mine n l = IsMine queues own far S (Qs own far) one n l

  abbrev Then : ℕ → LinkOf WireSegments → Type 0
  Then n l = IsMine queues own far T (Qs own far) one n l

  abbrev Are : WireLinks → Type 0
  Are x = All queues Then x.links

  -- what is said of a segment that is sent from its own address to its far one
  abbrev pub IsAgreed : NspValue → Type 0
  IsAgreed (DataSegment m) =
      m.srcaddr ≡ own → m.dstaddr ≡ far →
      ((i : ℕ) × (Some i ≡ one)) × ((p : Piece) → S m.number p → (p ≡ piece_of m) ⊎ Covered (Qs own far).word m.number)
  IsAgreed m = Unit {0}

  abbrev pub IsDone : NspValue → Sent WireSegments (Unit {0}) → Type 0
  IsDone m made = Are made.links × IsAgreed m

  fits_less : (f : WireSegments) → ((n : ℕ) (p : Piece) → T n p → S n p) → Fits S (Qs own far).word f → Fits T (Qs own far).word f
  fits_less f less fits = record { small = fits.small; each = λ n p sent. fits.each n p (less n p sent) }

  pub mine_less : ((n : ℕ) (p : Piece) → T n p → S n p) → (n : ℕ) (l : LinkOf WireSegments) → Mine n l → Then n l
  mine_less less n l is = record {
    called = λ f c. let was = is.called f c in (was.0, λ i p sent. was.1 i p (less i p sent));
    able = λ f o. let was = is.able f o in (was.0, go was.1);
  }
    where
      go : IsDead queues l ⊎ Fits S (Qs own far).word l.segments → IsDead queues l ⊎ Fits T (Qs own far).word l.segments
      go (inl dead) = inl dead
      go (inr fits) = inr (fits_less l.segments less fits)

  module _ (are : All queues Mine s.links) where
    -- ---- a segment

    module _ (segment : SegmentValue) (grows : (n : ℕ) (p : Piece) → T n p → S n p ⊎ IsOf own far (DataSegment segment) n p) where
      abbrev said : List Effect
      said = kept queues (Say OfRun ∷ Keep ∷ [])

      after_said : (q : Queues) (n : ℕ) (y : LinkOf WireSegments) (k : Unit {0}) →
          (after queues wire_segments s (kept q (Say OfRun ∷ Keep ∷ [])) (Some n) y k).links ≡ slice_set s.links n y
      after_said Without n y k = refl
      after_said With n y k = refl

      said_plain : (q : Queues) → ArePlain (kept q (Say OfRun ∷ Keep ∷ []))
      said_plain Without = (tt, tt)
      said_plain With = (tt, (tt, tt))

      abbrev left_by : ℕ → LinkOf WireSegments → WireLinks
      left_by n x = after queues wire_segments s said (Some n) (fold (does queues wire_segments (of_none queues wire_segments)) x said) tt

      -- the others stay as they are
      all_left : (n : ℕ) (x : LinkOf WireSegments) → Then n x →
          ((i : ℕ) (l : LinkOf WireSegments) → slice_get s.links i ≡ Some l → (i ≡ n → ⊥) → Then i l) → Are (left_by n x)
      all_left n x is others = subst (All queues Then) (sym (after_said queues n y tt)) all
        where
          y : LinkOf WireSegments
          y = fold (does queues wire_segments (of_none queues wire_segments)) x said

          now : Then n y
          now = all_done queues Then (stays queues own far T (Qs own far) one) (of_none queues wire_segments) (Some n) x said (said_plain queues) is

          all : All queues Then (slice_set s.links n y)
          all i l at = go (set_place s.links n y i l at)
            where
              go : ((slice_get s.links i ≡ Some l) × (i ≡ n → ⊥)) ⊎ ((i ≡ n) × (y ≡ l)) → Then i l
              go (inl (there, other)) = others i l there other
              go (inr (same, this)) = subst (λ (j : ℕ). Then j l) (sym same) (subst (Then n) this now)

      module _ (n : ℕ) (l : LinkOf WireSegments) (used : IsInUse queues s (TheLink segment.srcaddr segment.dstaddr) n l)
          (turn : may_send queues Running l ≡ true) where
        abbrev left : WireSegments → ℕ → LinkOf WireSegments
        left f gap = with_queue (record l.queue { gap = gap }) (with_segments f l)

        both : HasBoth segment.srcaddr segment.dstaddr l.port
        both = the_link segment.srcaddr segment.dstaddr n l used

        late : is_early l.port.phase ≡ false
        late = turn_late Qs queues l (each_at (IsLinkRight Qs) s.links n l old used.there) turn

        not_called : is_in Called l.port.phase ≡ true → ⊥
        not_called c = let no = late_not_called l.port.phase late in absurd cc

        -- of other addresses
        other_left : (segment.srcaddr ≡ own → segment.dstaddr ≡ far → ⊥) → (f : WireSegments) (gap : ℕ) → Are (left_by n (left f gap))
        other_left other f gap = all_left n (left f gap) now (λ i x at not_this. mine_less less i x (are i x at))
          where
            less : (i : ℕ) (p : Piece) → T i p → S i p
            less i p sent = go (grows i p sent)
              where
                go : S i p ⊎ IsOf own far (DataSegment segment) i p → S i p
                go (inl was) = was
                go (inr this) = absurd (other this.0.0 this.0.1)

            now : Then n (left f gap)
            now = record {
              called = λ g c. absurd (not_called c);
              able = λ g o.
                  let own_twice : ◌≡◌ {A = Option ℕ} (Some segment.srcaddr) (Some own) = sym both.0 ∙ o in
                  let far_twice : ◌≡◌ {A = Option ℕ} (Some segment.dstaddr) (Some far) = sym both.1 ∙ g in
                  let same_own : segment.srcaddr ≡ own = cc in
                  let same_far : segment.dstaddr ≡ far = cc in
                  absurd (other same_own same_far);
            }

        -- of these
        module _ (small : segment.number < 4096) (same_own : segment.srcaddr ≡ own) (same_far : segment.dstaddr ≡ far) where
          at_own : l.port.own ≡ Some own
          at_own = both.0 ∙ ap (λ (x : ℕ). Some x) same_own

          at_far : l.port.far ≡ Some far
          at_far = both.1 ∙ ap (λ (x : ℕ). Some x) same_far

          this_one : Some n ≡ one
          this_one = ((are n l used.there).able at_far at_own).0

          alive : IsDead queues l → ⊥
          alive = not_dead queues l (found_used queues s (TheLink segment.srcaddr segment.dstaddr) n l used
              (and_parts (is_live used.port.phase) (has_both used.port segment.srcaddr segment.dstaddr) used.passes).0) turn

          fits : Fits S (Qs own far).word l.segments
          fits = go ((are n l used.there).able at_far at_own).1
            where
              go : IsDead queues l ⊎ Fits S (Qs own far).word l.segments → Fits S (Qs own far).word l.segments
              go (inl dead) = absurd (alive dead)
              go (inr is) = is

          gave : Gave (Qs own far) l.segments
          gave = (each_at (IsLinkRight Qs) s.links n l old used.there).both own far at_own at_far

          more : (i : ℕ) (p : Piece) → T i p → S i p ⊎ ((i ≡ segment.number) × (p ≡ piece_of segment))
          more i p sent = go (grows i p sent)
            where
              go : S i p ⊎ IsOf own far (DataSegment segment) i p → S i p ⊎ ((i ≡ segment.number) × (p ≡ piece_of segment))
              go (inl was) = inl was
              go (inr this) = inr this.1

          known : (f : WireSegments) → SentBy segment l f →
              Fits T (Qs own far).word f × Agrees S T (Qs own far) l.segments gave fits segment small (any segment) more
          known f made = sent_kept S T (Qs own far) segment small (any segment) more l f gave fits made

          same_left : (f : WireSegments) (gap : ℕ) → SentBy segment l f → Are (left_by n (left f gap))
          same_left f gap made = all_left n (left f gap) now others
            where
              now : Then n (left f gap)
              now = record { called = λ g c. absurd (not_called c); able = λ g o. (this_one, inr (fitting (known f made).0)) }
                where
                  fitting : Fits T (Qs own far).word f → Fits T (Qs own far).word (left f gap).segments
                  fitting is = is

              others : (i : ℕ) (x : LinkOf WireSegments) → slice_get s.links i ≡ Some x → (i ≡ n → ⊥) → Then i x
              others i x at other = record {
                called = λ g c. absurd (no ((are i x at).called g c).0);
                able = λ g o. absurd (no ((are i x at).able g o).0);
              }
                where
                  no : Some i ≡ one → ⊥
                  no e = let twice : ◌≡◌ {A = Option ℕ} (Some i) (Some n) = e ∙ sym this_one in other cc

        segment_left : segment.number < 4096 → (f : WireSegments) (gap : ℕ) → SentBy segment l f → Are (left_by n (left f gap))
        segment_left small f gap made = go (eqb segment.srcaddr own && eqb segment.dstaddr far) refl
          where
            go : (b : Bool) → (eqb segment.srcaddr own && eqb segment.dstaddr far) ≡ b → Are (left_by n (left f gap))
            go true is =
                let parts = and_parts (eqb segment.srcaddr own) (eqb segment.dstaddr far) is in
                same_left small (eqb-true segment.srcaddr own parts.0) (eqb-true segment.dstaddr far parts.1) f gap made
            go false is = other_left (λ o g. let yes = and_from (eqb segment.srcaddr own) (eqb segment.dstaddr far) (eq-eqb segment.srcaddr own o)
                (eq-eqb segment.dstaddr far g) in absurd cc) f gap

    -- ---- any message

    abbrev Grows : NspValue → Type 0
    Grows m = (n : ℕ) (p : Piece) → T n p → S n p ⊎ IsOf own far m n p

    now_less : (m : NspValue) → Grows m → ((n : ℕ) (p : Piece) → IsOf own far m n p → ⊥) → All queues Then s.links
    now_less m grows never n l at = mine_less less n l (are n l at)
      where
        less : (i : ℕ) (p : Piece) → T i p → S i p
        less i p sent = go (grows i p sent)
          where
            go : S i p ⊎ IsOf own far m i p → S i p
            go (inl was) = was
            go (inr this) = absurd (never i p this)

    -- of a segment what all links are after it, of another message what its link is
    abbrev Left : NspValue → List Effect → OfRow
    Left (DataSegment segment) es n l = Are (after queues wire_segments s es n l tt)
    Left m es n l = IsAt queues Then n l

    left_are : (m : NspValue) → Grows m → (es : List Effect) (n : Option ℕ) (l : LinkOf WireSegments) (k : Unit {0}) → Left m es n l →
        Are (after queues wire_segments s es n l k)
    left_are (DataSegment segment) grows es n l k left = left
    left_are m grows es n l k is =
        after_stays queues Then (stays queues own far T (Qs own far) one) s (now_less m grows (λ i p this. this)) es n l k is

    blank_then : IsAt queues Then None (blank queues wire_segments)
    blank_then n = none_mine queues own far T (Qs own far) one n (blank queues wire_segments) (λ f. absurd cc)

    left_shows : (m : NspValue) → IsInRange m → Grows m → SendShows queues (of_none queues wire_segments) s (Left m) (sending_row m)
    left_shows (DataSegment segment) small grows = λ n l used turn f gap made. segment_left segment grows n l used turn small.1 f gap made
    -- a DC, which may end a call
    left_shows (DisconnectConfirm dst src reason) small grows =
        lasting_sends queues (of_none queues wire_segments) s (Left (DisconnectConfirm dst src reason))
        (sending_row (DisconnectConfirm dst src reason)) refl (
          tt,
          (
            blank_then,
            (
              blank_then,
              λ n l found.
                  dropped_mine queues own far T (Qs own far) one n l
                  (used_live queues l (in_live Called l.port.phase (called_by dst n l s found) refl))
                  (now_less (DisconnectConfirm dst src reason) grows (λ i p this. this) n l found.there),
            ),
          ),
        )
    left_shows m small grows =
        calm_sends queues s (IsAt queues Then) IsQuiet IsPlain (of_none queues wire_segments)
        (keeps queues Then (stays queues own far T (Qs own far) one) s (now_less m grows (λ i p this. this)) (of_none queues wire_segments))
        (sending_row m) assumption

    agreed_shows : (m : NspValue) → IsInRange m → Grows m →
        SendShows queues (of_none queues wire_segments) s (λ es n l. IsAgreed m) (sending_row m)
    agreed_shows (DataSegment segment) small grows = λ n l used turn f gap made o g.
        ((n, this_one segment grows n l used turn small.1 o g), (known segment grows n l used turn small.1 o g f made).1)
    agreed_shows m small grows = always_sends queues s (Unit {0}) tt (of_none queues wire_segments) (sending_row m)

    pub mine_sent : (packet : Carried) → IsInRange packet.message → Grows packet.message →
        Good (IsDone packet.message) (wire_links_sent queues s packet)
    mine_sent packet small grows made e = (
      sent_good queues s packet (Left packet.message) (λ (made : Sent WireSegments (Unit {0})). Are made.links) (left_are packet.message grows)
          (left_shows packet.message small grows) made e,
      sent_tells queues s packet (IsAgreed packet.message) (agreed_shows packet.message small grows) made e,
    )
