-- Links without queues are those with queues once the queues are put aside, and what a link that has ended may keep is let go. Over any book.
use Rattle.std.proofs.Common.{◌≡◌, ℕ, zero, suc, Bool, true, false, ◌||◌, Option, Some, None, List, [], ◌∷◌, map, Result, Ok, Err, refl, sym, ap, ap₂}
use Rattle.std.proofs.Common.{◌∙◌, option_map}
use Rattle.std.specs.Prelude.{slice_get, slice_set}
use Rattle.std.proofs.lemmas.List.{map-append, map-set}
use Rattle.std.proofs.lemmas.Option.{slice_get-map, same_Some}
use Rattle.dna_packet.specs.Nsp.{SegmentValue}
use Rattle.dna_station.specs.declared.link_refusal.LinkRefusal.{LinkRefusal}
use Rattle.dna_links.specs.declared.queue.Queues.TheVariants.{Without, With}
use Rattle.dna_links.specs.declared.queue.Said.{Said}
use Rattle.dna_links.specs.declared.queue.Said.TheVariants.{OfRun, Disconnect}
use Rattle.dna_links.specs.declared.port.Phase.{Phase}
use Rattle.dna_links.specs.declared.port.Phase.TheVariants.{Running, Disconnecting}
use Rattle.dna_links.specs.declared.port.LinkTest.{LinkTest}
use Rattle.dna_links.specs.declared.port.LinkTest.TheVariants.{HasAddress}
use Rattle.dna_links.specs.LookUps.{passes, is_live}
use Rattle.dna_links.specs.SegmentBook.{SegmentBook, Sending, Late, with_gap}
use Rattle.dna_links.specs.Links.{LinkOf, LinksOf, number_of, on_link, at_number, with_link, begun, changed, in_phase, with_segments}
use Rattle.dna_links.specs.Queues.{fresh, further, has_waiting, keeps_numbers, lets_go, requeued, goes_on, ends_by_message, drops, ended, forgotten}
use Rattle.dna_links.specs.Queues.{drops_segments}
use Rattle.dna_links.specs.Queues.{booted_link, booted}
use Rattle.dna_links.specs.Queues.{freed, shows, shows_by, settled}
use Rattle.dna_links.specs.Sending.{Sent}
use Rattle.dna_links.proofs.Tables.Outcomes.{looked}
use Rattle.dna_links.proofs.Cut.LookUps.{position-map}

set_itself : {X : Type 0} (xs : List X) (n : ℕ) (x : X) → slice_get xs n ≡ Some x → slice_set xs n x ≡ xs
set_itself [] n x at = refl
set_itself (y ∷ xs) zero x at = ap (λ z. z ∷ xs) (sym (same_Some y x at))
set_itself (y ∷ xs) (suc n) x at = ap (λ zs. y ∷ zs) (set_itself xs n x at)

module _ {D : Type 0} (s : LinksOf D) where
  pub at_found : {R : Type 0} (test : LinkTest) (number : ℕ) (m : LinkOf D) (otherwise : R) (next : ℕ → LinkOf D → R) →
      number_of test s ≡ Some number → slice_get s.links number ≡ Some m → with_link test s otherwise next ≡ next number m
  at_found test number m otherwise next found at =
      ap (λ (o : Option ℕ). at_number s.links o otherwise next) found ∙ ap (λ (o : Option (LinkOf D)). on_link number o otherwise next) at

  pub at_none : {R : Type 0} (test : LinkTest) (otherwise : R) (next : ℕ → LinkOf D → R) → number_of test s ≡ None →
      with_link test s otherwise next ≡ otherwise
  at_none test otherwise next none = ap (λ (o : Option ℕ). at_number s.links o otherwise next) none

module _ {D K : Type 0} where
  -- what may be sent may be sent late
  abbrev pub IsLate : Result (Sending D K) LinkRefusal → Result (Late D K) LinkRefusal → Type 0
  IsLate (Ok sent) o = (left : ℕ) × (o ≡ Ok (record { sent = sent; gap = left }))
  IsLate (Err refusal) o = Unit {0}

  pub gap_late : (gap : Sending D K → ℕ) (r : Result (Sending D K) LinkRefusal) → IsLate r (with_gap gap r)
  gap_late gap (Ok sent) = (gap sent, refl)
  gap_late gap (Err refusal) = tt

module _ {D K : Type 0} (book : SegmentBook D K) where
  -- what a link has of its segments without queues
  abbrev pub left_of : (live : Bool) → D → D
  left_of true f = f
  left_of false f = book.ends f

  abbrev pub plain : LinkOf D → LinkOf D
  plain m = record {
    port = m.port;
    partner = m.partner;
    segsize = m.segsize;
    segments = left_of (is_live m.port.phase) m.segments;
    queue = fresh;
  }

  abbrev pub plain_links : LinksOf D → LinksOf D
  plain_links s = record { node = s.node; peer = s.peer; links = map plain s.links }

  abbrev pub plain_sent : Sent D K → Sent D K
  plain_sent made = record made { links = plain_links made.links }

  -- a message that is delivered of what is left, and of all
  pub record DeliversAll (message : List ℕ) (f left : D) : Type 0 where
    pub all : D
    pub is : book.delivers message f ≡ Some all
    pub same : book.ends all ≡ left

  -- What is let go is let go once; what is left delivers as all did; and a segment that may be sent may be sent late
  pub record LetsGo : Type 0 where
    pub twice : (f : D) → book.ends (book.ends f) ≡ book.ends f
    pub forgets : (f : D) → book.ends (book.forgets f) ≡ book.forgets (book.ends f)
    pub delivers : (message : List ℕ) (f left : D) → book.delivers message (book.ends f) ≡ Some left → DeliversAll message f left
    pub late : (gap segsize : ℕ) (segment : SegmentValue) (f : D) →
        IsLate (book.sends_segment segsize segment f) (book.sends_late gap segsize segment f)

  -- ---- look-ups, and changes of one link

  pub changed_plain : (n : ℕ) (m : LinkOf D) (s : LinksOf D) → plain_links (changed n m s) ≡ changed n (plain m) (plain_links s)
  changed_plain n m s = ap (λ (links : List (LinkOf D)). record (plain_links s) { links = links }) (map-set plain s.links n m)

  pub begun_plain : (m : LinkOf D) (s : LinksOf D) → plain_links (begun m s) ≡ begun (plain m) (plain_links s)
  begun_plain m s = ap (λ (links : List (LinkOf D)). record (plain_links s) { links = links }) (map-append plain s.links (m ∷ []))

  pub number_plain : (test : LinkTest) (s : LinksOf D) → number_of test (plain_links s) ≡ number_of test s
  number_plain test s = position-map (λ (l : LinkOf D). passes test l.port) plain s.links

  pub plain_at : (s : LinksOf D) (n : ℕ) (m : LinkOf D) → slice_get s.links n ≡ Some m → slice_get (plain_links s).links n ≡ Some (plain m)
  plain_at s n m at = slice_get-map plain s.links n ∙ ap (option_map plain) at

  -- a link that changes in its queue alone
  pub same_plain : (n : ℕ) (m left : LinkOf D) (s : LinksOf D) → slice_get s.links n ≡ Some m → plain left ≡ plain m →
      plain_links (changed n left s) ≡ plain_links s
  same_plain n m left s at same =
      changed_plain n left s
      ∙ ap (λ (x : LinkOf D). changed n x (plain_links s)) same
      ∙ ap (λ (links : List (LinkOf D)). record (plain_links s) { links = links })
      (set_itself (plain_links s).links n (plain m) (plain_at s n m at))

  -- the link that is plain there
  pub record IsPlainAt (s : LinksOf D) (n : ℕ) (link : LinkOf D) : Type 0 where
    pub m : LinkOf D
    pub at : slice_get s.links n ≡ Some m
    pub is : plain m ≡ link

  pub plain_there : (s : LinksOf D) (n : ℕ) (link : LinkOf D) → slice_get (plain_links s).links n ≡ Some link → IsPlainAt s n link
  plain_there s n link at = go (slice_get s.links n) refl (sym (slice_get-map plain s.links n) ∙ at)
    where
      go : (o : Option (LinkOf D)) → slice_get s.links n ≡ o → option_map plain o ≡ Some link → IsPlainAt s n link
      go None here e = absurd cc
      go (Some m) here e = record { m = m; at = here; is = same_Some (plain m) link e }

  -- ---- a live link

  live_left : (live : Bool) (f : D) → live ≡ true → left_of live f ≡ f
  live_left true f e = refl
  live_left false f e = absurd cc

  pub live_segments : (m : LinkOf D) → is_live m.port.phase ≡ true → (plain m).segments ≡ m.segments
  live_segments m live = live_left (is_live m.port.phase) m.segments live

  pub live_with : (m : LinkOf D) (f : D) → is_live m.port.phase ≡ true → plain (with_segments f m) ≡ with_segments f (plain m)
  live_with m f live = ap (λ (x : D). with_segments x (plain m)) (live_left (is_live m.port.phase) f live)

  pub goes_plain : (phase : Phase) (m : LinkOf D) → is_live m.port.phase ≡ true → is_live phase ≡ true →
      plain (goes_on book (is_live m.port.phase) phase m) ≡ in_phase phase (plain m)
  goes_plain phase m live next =
      ap (λ (b : Bool). plain (goes_on book b phase m)) live
      ∙ ap (λ (x : D). with_segments x (in_phase phase (plain m)))
      (live_left (is_live phase) m.segments next ∙ sym (live_left (is_live m.port.phase) m.segments live))

  -- ---- what is let go

  module _ (good : LetsGo) where
    lets_twice : (before now : Bool) (f : D) → book.ends (lets_go book before now f) ≡ book.ends f
    lets_twice true true f = refl
    lets_twice true false f = good.twice f
    lets_twice false now f = refl

    left_twice : (live : Bool) (f : D) → book.ends (left_of live f) ≡ book.ends f
    left_twice true f = refl
    left_twice false f = good.twice f

    lets_same : (live before now : Bool) (f : D) → left_of live (lets_go book (live || before) (live || now) f) ≡ left_of live f
    lets_same true before now f = refl
    lets_same false before now f = lets_twice before now f

    requeued_plain : (waits : Option Phase) (said : Said) (m : LinkOf D) → plain (requeued book waits said m) ≡ plain m
    requeued_plain waits said m =
        ap (λ (x : D). with_segments x (plain m))
        (lets_same (is_live m.port.phase) (has_waiting m.queue.waits m.queue.said) (has_waiting waits said) m.segments)

    pub shows_plain : (said : Said) (m : LinkOf D) → plain (shows book said m) ≡ plain m
    shows_plain said m = requeued_plain m.queue.waits (further said m.queue.said) m

    shows_by_plain : (phase : Phase) (m : LinkOf D) → plain (shows_by book phase m) ≡ plain m
    shows_by_plain Running m = shows_plain OfRun m
    shows_by_plain Disconnecting m = shows_plain Disconnect m
    shows_by_plain phase m = refl

    settled_plain : (waits : Option Phase) (m : LinkOf D) → plain (settled book waits m) ≡ plain m
    settled_plain None m = shows_by_plain m.port.phase m
    settled_plain (Some phase) m = requeued_plain None m.queue.said m

    pub settled_all : (own : ℕ) (s : LinksOf D) →
        plain_links (with_link (HasAddress own) s s (λ n m. changed n (settled book m.queue.waits m) s)) ≡ plain_links s
    settled_all own s =
        looked (HasAddress own) s s (λ n m. changed n (settled book m.queue.waits m) s)
        (with_link (HasAddress own) s s (λ n m. changed n (settled book m.queue.waits m) s)) refl
        (λ none e. ap plain_links (sym e))
        (λ number m found e. ap plain_links (sym e)
        ∙ same_plain number m (settled book m.queue.waits m) s found.there (settled_plain m.queue.waits m))

    pub ends_plain : (m : LinkOf D) → plain (ends_by_message book With m) ≡ ended book (plain m)
    ends_plain m =
        ap (λ (x : D). with_segments x (ended book (plain m)))
        (lets_twice (keeps_numbers m) (has_waiting (Some m.port.phase) m.queue.said) m.segments
        ∙ sym (left_twice (is_live m.port.phase) m.segments))

    pub drops_plain : (m : LinkOf D) → plain (drops book With m) ≡ ended book (plain m)
    drops_plain m =
        ap (λ (x : D). with_segments x (ended book (plain m)))
        (drops_twice m.port.opened m.segments ∙ sym (left_twice (is_live m.port.phase) m.segments))
      where
        drops_twice : (opened : Bool) (f : D) → book.ends (drops_segments book opened f) ≡ book.ends f
        drops_twice true f = refl
        drops_twice false f = good.twice f

    left_forgets : (live : Bool) (f : D) → left_of live (book.forgets f) ≡ book.forgets (left_of live f)
    left_forgets true f = refl
    left_forgets false f = good.forgets f

    forgotten_plain : (m : LinkOf D) → plain (forgotten book With m) ≡ forgotten book Without (plain m)
    forgotten_plain m =
        ap (λ (x : D). with_segments x (forgotten book Without (plain m))) (left_forgets (is_live m.port.phase) m.segments)

    pub freed_plain : (own : ℕ) (s : LinksOf D) → plain_links (freed book With own s) ≡ freed book Without own (plain_links s)
    freed_plain own s =
        looked (HasAddress own) s s (λ n m. changed n (forgotten book With m) s) (freed book With own s) refl
        (λ none e. ap plain_links (sym e)
        ∙ sym (at_none (plain_links s) (HasAddress own) (plain_links s) (λ n m. changed n (forgotten book Without m) (plain_links s))
        (number_plain (HasAddress own) s ∙ none)))
        (λ number m found e. ap plain_links (sym e) ∙ changed_plain number (forgotten book With m) s
        ∙ ap (λ (x : LinkOf D). changed number x (plain_links s)) (forgotten_plain m)
        ∙ sym (at_found (plain_links s) (HasAddress own) number (plain m) (plain_links s)
        (λ n m. changed n (forgotten book Without m) (plain_links s)) (number_plain (HasAddress own) s ∙ found.found)
        (plain_at s number m found.there)))

    booted_each : (links : List (LinkOf D)) → map plain (map (booted_link book With) links) ≡ map (booted_link book Without) (map plain links)
    booted_each [] = refl
    booted_each (m ∷ links) =
        ap₂ (λ (x : LinkOf D) (all : List (LinkOf D)). x ∷ all)
        (forgotten_plain (drops book With m) ∙ ap (forgotten book Without) (drops_plain m)) (booted_each links)

    pub booted_plain : (s : LinksOf D) → plain_links (booted book With s) ≡ booted book Without (plain_links s)
    booted_plain s = ap (λ (links : List (LinkOf D)). record (plain_links s) { links = links }) (booted_each s.links)

    -- what is delivered of what a link has without queues
    pub record Delivered (live : Bool) (message : List ℕ) (f left : D) : Type 0 where
      pub all : D
      pub is : book.delivers message f ≡ Some all
      pub same : left_of live all ≡ left

    pub delivers_plain : (live : Bool) (message : List ℕ) (f left : D) → book.delivers message (left_of live f) ≡ Some left →
        Delivered live message f left
    delivers_plain true message f left e = record { all = left; is = e; same = refl }
    delivers_plain false message f left e = let d = good.delivers message f left e in record { all = d.all; is = d.is; same = d.same }
