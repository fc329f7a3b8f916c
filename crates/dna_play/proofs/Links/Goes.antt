-- What may become of one link of an end of the player, by its user, by what it sends and by what comes: it fits still, its numbers go on, and where
-- it is none that a DC names it is none still.
use Rattle.dna_play.proofs.Prelude.{◌≡◌, ℕ, ◌<◌, ◌≤◌, Bool, true, false, ◌&&◌, nat_lt, nat_le, eqb, cond, List, [], ◌∷◌, ◌++◌, fold, refl, ◌∙◌}
use Rattle.dna_play.proofs.Prelude.{arith, ltb-true, leb-true, length-append, eq-eqb, ◌||◌, both_true, is_some, not, and_parts, same_Some}
use Rattle.dna_play.proofs.Prelude.{SegmentValue, ended, LinkTag, Phase, Calling, Called, Running, is_live, is_at, is_called, is_calling}
use Rattle.dna_play.proofs.Prelude.{is_connected, Piece, without_piece, SEGSIZE, LinkOf, in_phase, with_segments, answered, PartnerRule, confirmed}
use Rattle.dna_play.proofs.Prelude.{TrueSegments, Numbers, true_segments, highest_given, acknowledged_through, IsOrdered, are_bytes, EndConfirm}
use Rattle.dna_play.proofs.{EachElement.more_all, Links.Pays.fits_in, Links.Phases.called_is, Links.Phases.calling_is, Links.Owing.SegmentsMove}
use Rattle.dna_play.proofs.{Links.Owing.stays}
use Rattle.dna_play.proofs.Links.Fits.{PieceFits, SegmentsFit, LinkFits, left_fits, connected_fits, fits_as}
use Rattle.dna_play.proofs.Links.Confirms.{may_be, IsPast, connected_past}

-- ---- its segments

pub record SegmentsGo (f g : TrueSegments) : Type 0 where
  pub fits : SegmentsFit f → SegmentsFit g
  pub moves : IsOrdered f → SegmentsMove f g

-- another number is the last that was acknowledged by it
pub acks_go : (f : TrueSegments) (last : ℕ) → SegmentsGo f (record f { last = last })
acks_go f last = record { fits = λ h. h; moves = λ o. let m = stays f o in record { given = m.given; least = m.least; most = m.most } }

pub stays_as_it_is : (f : TrueSegments) → SegmentsGo f f
stays_as_it_is f = record { fits = λ h. h; moves = stays f }

pub handed_goes : (f : TrueSegments) (message : List ℕ) → are_bytes message ≡ true → SegmentsGo f (true_segments.hands_in message f)
handed_goes f message bytes = record {
  fits = λ h. record { unsent = more_all _ f.unsent.messages (message ∷ []) h.unsent (bytes, tt); given = h.given };
  moves = λ o. let m = stays f o in record { given = m.given; least = m.least; most = m.most };
}

-- a piece is given
pub given_goes : (f : TrueSegments) (p : Piece) → PieceFits p →
    SegmentsGo f (record f { given = f.given ++ p ∷ []; unsent = without_piece p f.unsent })
given_goes f p this = record {
  fits = λ h. record { unsent = left_fits p f.unsent.messages h.unsent; given = more_all PieceFits f.given (p ∷ []) h.given (this, tt) };
  moves = λ o. let e = length-append f.given (p ∷ []) in let some = o.given in
      record { given = omega arith; least = omega arith; most = some };
}

-- what is acknowledged, from this number on
acknowledged_goes : (f : TrueSegments) (numbers : List ℕ) (from : ℕ) → (IsOrdered f → (f.acknowledged ≤ from) × (from ≤ highest_given f)) →
    SegmentsGo f (fold acknowledged_through (record f { acknowledged = from }) numbers)
acknowledged_goes f [] from within =
    record { fits = λ h. h; moves = λ o. let w = within o in record { given = omega arith; least = w.0; most = w.1 } }
acknowledged_goes f (n ∷ numbers) from within =
    go (λ to w. acknowledged_goes f numbers to w) (nat_lt from n && nat_le n (highest_given f)) refl
  where
    go : ((to : ℕ) → (IsOrdered f → (f.acknowledged ≤ to) × (to ≤ highest_given f)) →
        SegmentsGo f (fold acknowledged_through (record f { acknowledged = to }) numbers)) → (b : Bool) →
        (nat_lt from n && nat_le n (highest_given f)) ≡ b →
        SegmentsGo f (fold acknowledged_through (cond b (record f { acknowledged = n }) (record f { acknowledged = from })) numbers)
    go later true e =
        let p = and_parts (nat_lt from n) (nat_le n (highest_given f)) e in let less = ltb-true from n p.0 in
        later n (λ o. let least = (within o).0 in (omega arith, leb-true n (highest_given f) p.1))
    go later false e = later from within

pub took_acks : (f : TrueSegments) (known : Numbers) → SegmentsGo f (fold acknowledged_through f known.acknowledgements)
took_acks f known = acknowledged_goes f known.acknowledgements f.acknowledged (λ o. (omega arith, o.given))

pub took_segment : (f : TrueSegments) (s : SegmentValue) (known : Numbers) → SegmentsGo f (true_segments.takes_segment s known f)
took_segment f s known = let k = took_acks f known in record {
  fits = λ h. let fits = k.fits h in record { unsent = fits.unsent; given = fits.given };
  moves = λ o. let m = k.moves o in record { given = m.given; least = m.least; most = m.most };
}

-- ---- the link, where addresses up to this one were given

pub record Goes (most : ℕ) (l k : LinkOf TrueSegments) : Type 0 where
  pub fits : LinkFits l → LinkFits k
  pub moves : IsOrdered l.segments → SegmentsMove l.segments k.segments
  pub past : (confirm : EndConfirm) → confirm.src ≤ most → IsPast confirm l → IsPast confirm k

module _ (most : ℕ) (l : LinkOf TrueSegments) where
  -- the segments alone change
  pub segments_go : (f : TrueSegments) → SegmentsGo l.segments f → Goes most l (with_segments f l)
  segments_go f goes = record {
    fits = λ h. record { shape = go l.port.phase h.shape; segments = goes.fits h.segments };
    moves = goes.moves;
    past = λ confirm given past. past;
  }
    where
      go : (phase : Phase) → fits_in phase l ≡ true → fits_in phase (with_segments f l) ≡ true
      go Calling e = e
      go phase e = e

  pub ended_goes : Goes most l (ended true_segments l)
  ended_goes = record { fits = λ h. record { shape = refl; segments = h.segments }; moves = stays l.segments; past = λ confirm given past e. refl }

  -- its call is answered
  pub answered_goes : (phase : Phase) (address : ℕ) →
      fits_in phase (answered true_segments phase address l) ≡ (is_some l.port.far && eqb l.segsize SEGSIZE) → is_called l.port.phase ≡ true →
      most < address → Goes most l (answered true_segments phase address l)
  answered_goes phase address same called less = record {
    fits = λ h. record { shape = same ∙ (and_parts (not l.port.opened) _ (fits_as l Called (called_is _ called) h.shape)).1; segments = h.segments };
    moves = stays l.segments;
    past = λ confirm given past e. let is = same_Some address confirm.src e in absurd (omega arith);
  }

  -- one in Confirming or RUN is closed, or goes on in RUN
  pub connected_goes : (phase : Phase) (f : TrueSegments) →
      fits_in phase (with_segments f (in_phase phase l)) ≡ (is_some l.port.own && (is_some l.port.far && eqb l.segsize SEGSIZE)) →
      ((far : ℕ) → may_be far (in_phase phase l).port ≡ is_at l.port.far far) → is_connected l.port.phase ≡ true → SegmentsGo l.segments f →
      Goes most l (with_segments f (in_phase phase l))
  connected_goes phase f same is connected goes = record {
    fits = λ h. record { shape = same ∙ connected_fits l.port.phase l connected h.shape; segments = goes.fits h.segments };
    moves = goes.moves;
    past = λ confirm given past e. is confirm.dst ∙ connected_past l.port.phase confirm.dst l.port.far connected (past e);
  }

  pub runs_on : (f : TrueSegments) → is_connected l.port.phase ≡ true → SegmentsGo l.segments f → Goes most l (with_segments f (in_phase Running l))
  runs_on f connected goes = connected_goes Running f refl (λ far. refl) connected goes

  -- CC
  pub confirmed_goes : (rule : PartnerRule) (far segsize : ℕ) (tag : LinkTag) → segsize ≡ SEGSIZE → is_calling l.port.phase ≡ true →
      Goes most l (confirmed true_segments rule far segsize tag l)
  confirmed_goes rule far segsize tag size calling = record {
    fits = λ h. record {
      shape = both_true (and_parts l.port.opened _ (fits_as l Calling (calling_is _ calling) h.shape)).1 (eq-eqb segsize SEGSIZE size);
      segments = h.segments;
    };
    moves = stays l.segments;
    past = λ confirm given past e. absurd (calls confirm l.port.phase calling (past e));
  }
    where
      calls : (confirm : EndConfirm) (phase : Phase) → is_calling phase ≡ true →
          (is_live phase && (is_calling phase || is_at l.port.far confirm.dst)) ≡ false → ⊥
      calls confirm Calling c e = cc
      calls confirm phase c e = cc
