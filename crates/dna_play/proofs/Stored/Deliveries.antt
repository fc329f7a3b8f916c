-- All that is whole of a link goes to the user at once: what the deliveries make of an end of the player. They change the segments of that link, and
-- nothing else.
use Rattle.dna_play.proofs.Prelude.{◌≡◌, ℕ, ◌+◌, true, Some, List, [], ◌∷◌, ◌++◌, drop, refl, ap, ap₂, ◌∙◌, subst, append-nil, append_assoc, arith}
use Rattle.dna_play.proofs.Prelude.{◌⊎◌, inl, inr, Ok, Err, slice_get, drop-drop, set-set, Without, is_at, Whole, in_whole_messages, LinkOf}
use Rattle.dna_play.proofs.Prelude.{changed, with_segments, TrueSegments, true_segments, Links, links_user, complete, ups, set_same, at_set, NoLink}
use Rattle.dna_play.proofs.Prelude.{HasAddress}
use Rattle.capture_record.specs.declared.event.Event.TheVariants as events
use Rattle.dna_links.specs.User as of_links
use Rattle.dna_links.specs.inner.Forms as forms
use Rattle.dna_play.proofs.Played.Steps.{PlayHalf, MakesAll, Nothing, First}
use Rattle.dna_play.proofs.{Links.Pays.found_at, Links.Pays.with_found, Links.Made.event_makes, Ends.Stage.with_left, Links.Lists.set_back}
use Rattle.dna_play.proofs.{Ends.TrueEnd.links_of}
use Rattle.dna_play.proofs.Ends.UpsFollow.{delivering, delivers_next, AllLined, none_whole}

-- ---- the segments

-- after all that is whole is delivered
abbrev pub segments_got : TrueSegments → List (List ℕ) → TrueSegments
segments_got f messages = record f { delivered = f.delivered ++ messages; passed = f.passed + in_whole_messages (drop f.passed f.received) }

abbrev segments_at : TrueSegments → List (List ℕ) → ℕ → TrueSegments
segments_at f delivered passed = record f { delivered = delivered; passed = passed }

none_got : (f : TrueSegments) → complete [] (drop f.passed f.received) ≡ [] → segments_got f [] ≡ f
none_got f none =
    let zero = none_whole (drop f.passed f.received) none in
    let passed : f.passed + in_whole_messages (drop f.passed f.received) ≡ f.passed = omega arith in
    ap₂ (segments_at f) (append-nil f.delivered) passed

more_got : (f : TrueSegments) (message : List ℕ) (later : List (List ℕ)) (w : Whole) →
    in_whole_messages (drop f.passed f.received) ≡ w.pieces + in_whole_messages (drop w.pieces (drop f.passed f.received)) →
    segments_got (delivering message w f) later ≡ segments_got f (message ∷ later)
more_got f message later w counted =
    let pieces = drop f.passed f.received in
    let behind = ap in_whole_messages (drop-drop w.pieces f.passed f.received) in
    let passed : f.passed + w.pieces + in_whole_messages (drop (f.passed + w.pieces) f.received) ≡ f.passed + in_whole_messages pieces =
    omega arith in
    ap₂ (segments_at f) (append_assoc f.delivered (message ∷ []) later) passed

-- ---- all of them

pub gets_made : (other : PlayHalf) (address number : ℕ) (messages : List (List ℕ)) (half : PlayHalf) (l : LinkOf TrueSegments) →
    AllLined address messages → slice_get (links_of half).links number ≡ Some l → is_at l.port.own address ≡ true →
    ((j : ℕ) (m : LinkOf TrueSegments) → slice_get (links_of half).links j ≡ Some m → is_at m.port.own address ≡ true → j ≡ number) →
    complete [] (drop l.segments.passed l.segments.received) ≡ messages →
    MakesAll other half (ups address messages)
    (with_left half (changed number (with_segments (segments_got l.segments messages) l) (links_of half)))
gets_made other address number [] half l lined there owns only whole =
    rw (none_got l.segments whole, set_back (links_of half).links number l there) Nothing
gets_made other address number (message ∷ later) half l lined there owns only whole =
    let s = links_of half in
    let d = delivers_next l.segments message later whole in
    let k = with_segments (delivering message d.w l.segments) l in
    let left : Links = changed number k s in
    let does : links_user Without s (of_links.Up address message) ≡ Ok left =
    with_found s (HasAddress address) number l (Err NoLink)
    (λ number link. forms.delivered true_segments number link s (true_segments.delivers message link.segments))
    (found_at s (HasAddress address) number l there owns only) ∙ ap (forms.delivered true_segments number l s) d.does in
    First (event_makes half other (events.Up address message) (of_links.Up address message) left refl tt lined.0 does)
    (subst (λ (x : Links). MakesAll other (with_left half left) (ups address later) (with_left half x))
    (rw (set-set s.links number k (with_segments (segments_got k.segments later) k), more_got l.segments message later d.w d.counted) refl)
    (gets_made other address number later (with_left half left) k lined.1 (set_same s.links number l k there) owns
    (λ j m at e. still_only (links_of half) j m e (at_set s.links number j k m at) only) d.left))
  where
    still_only : {k : LinkOf TrueSegments} (s : Links) (j : ℕ) (m : LinkOf TrueSegments) → is_at m.port.own address ≡ true →
        ((j ≡ number) × (k ≡ m)) ⊎ ((j ≡ number → ⊥) × (slice_get s.links j ≡ Some m)) →
        ((j : ℕ) (m : LinkOf TrueSegments) → slice_get s.links j ≡ Some m → is_at m.port.own address ≡ true → j ≡ number) → j ≡ number
    still_only s j m e (inl is) only = is.0
    still_only s j m e (inr is) only = only j m is.1 e
