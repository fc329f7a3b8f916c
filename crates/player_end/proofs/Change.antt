-- What a link that changes in its place makes of the links that live.
use Rattle.std.proofs.Common.{◌≡◌, ℕ, ◌<◌, Option, Some, None, Bool, true, false, Result, Ok, Err, OnOk, List, length, get_or, set, refl, sym, subst}
use Rattle.std.proofs.Common.{ap, ◌∙◌, cond, IfErr, option_map, ◌++◌, []}
use Rattle.std.specs.Prelude.{slice_get, slice_set}
use Rattle.std.proofs.lemmas.Option.{slice_get_read, slice_get_within, same_Some}
use Rattle.std.proofs.lemmas.Result.{IfErr-weaker}
use Rattle.capture.specs.Text.{record_lines}
use Rattle.capture.specs.declared.hint.HintForm.TheVariants.{Number}
use Rattle.dna_play.specs.Receipt.{complete}
use Rattle.dna_play.specs.StoredPlay.{all_short, ups}
use Rattle.dna_links.specs.LookUps.{is_live}
use Rattle.dna_play.specs.LinkOwed.{EndConfirm, Duty, retried}
use Rattle.dna_play.specs.NextSent.{LinkEnd, OfLink, link_choice}
use Rattle.dna_play.specs.StoredEnd.{StoredLinks}
use Rattle.dna_packet.specs.Nsp.{SegmentValue}
use Rattle.dna_play.specs.StoredLinks.{Delivering, after_sent, changed, delivering_at, ended, sent_at, took_segment, duty_sent, without_whole}
use Rattle.player_end.specs.declared.fault.StepFault.{StepFault}
use Rattle.player_end.specs.declared.fault.StepFault.TheVariants.{BadStep, Full, OutOfMemory}
use Rattle.player_end.specs.Stepping.{Stopped}
use Rattle.player_end.specs.inner.Delivering.{delivers_at, lines_of}
use Rattle.player_end.proofs.LiveLists.{left, live_change, live_get}
use Rattle.player_end.specs.inner.Index.{live_ends, LivesAt, among_live, live_of, place_among, IsIndexed}
use Rattle.player_end.specs.inner.Links.{changed_to, gone, retried_end}
use Rattle.player_end.proofs.Indexed.{Knows, changed_indexed, set_indexed}
use Rattle.player_end.proofs.Keeping.{Keeps, same_port, as_made, keeps_acted, keeps_called, keeps_closed, keeps_confirmed, keeps_acks, retry_port}
use Rattle.player_end.proofs.Duties.{AllSilent, Stands, chosen_stands}

pub map_ok : {A E P Q : Type 0} (r : Result A E) → (P → Q) → OnOk r P → OnOk r Q
map_ok (Ok x) f h = f h
map_ok (Err e) f h = h

-- what is whole of a link goes to the user
in_cond : {A B : Type 0} (f : A → B) (x : A) (b : Bool) → cond b (Some (f x)) None ≡ option_map f (cond b (Some x) None)
in_cond f x true = refl
in_cond f x false = refl

stopped_so : {A B : Type 0} (f : A → B) (o : Option A) (fault : StepFault) → Stopped o fault → Stopped (option_map f o) fault
stopped_so f o BadStep h = ap (option_map f) h
stopped_so f o Full h = h
stopped_so f o OutOfMemory h = tt

module _ (own : ℕ) (text : List ℕ) (place : ℕ) (link : LinkEnd) (s : StoredLinks) where
  abbrev with_left : List ℕ → StoredLinks × List ℕ
  with_left t = (changed place (without_whole link) s, t)

  delivers_lines : delivers_at own text (delivering_at place link s) ≡ option_map with_left (lines_of own text link.variables.pieces)
  delivers_lines = in_cond with_left (text ++ record_lines Number (ups own (complete [] link.variables.pieces)))
      (all_short (complete [] link.variables.pieces))

-- one of the links of an end, at its number, where it lives
module _ {items : List LinkEnd} {confirms : List EndConfirm} {s : StoredLinks} {n : ℕ} {l : LinkEnd}
    (shown : record { links = items; confirms = confirms } ≡ s) (within : n < length s.links) (at : l ≡ get_or items n l) (live : LivesAt n s) where
  shown_within : n < length items
  shown_within = subst (λ (t : StoredLinks). n < length t.links) (sym shown) within

  link_there : slice_get items n ≡ Some l
  link_there = slice_get_read items (length items) n l refl shown_within at

  link_found : slice_get s.links n ≡ Some l
  link_found = ap (λ (t : StoredLinks). slice_get t.links n) (sym shown) ∙ link_there

  same_link : (link : LinkEnd) → slice_get s.links n ≡ Some link → l ≡ link
  same_link link e = same_Some l link (sym link_found ∙ e)

  pub l_lives : is_live l.port.phase ≡ true
  l_lives = live l link_found

  abbrev with_it : LinkEnd → StoredLinks
  with_it m = record { links = set items n m; confirms = confirms }

  made_by : (m : LinkEnd) (b : Bool) → is_live m.port.phase ≡ b → live_of (with_it m) ≡ record (live_of s) {
    links = left m b (live_ends s.links) (place_among n s.links);
  }
  made_by m b is =
      ap (λ (all : List LinkEnd). record { links = all; confirms = confirms }) (live_change m items n l link_there l_lives b is)
      ∙ ap (λ (t : StoredLinks). record (live_of t) { links = left m b (live_ends t.links) (place_among n t.links) }) shown

  -- it is the change of the link that is there
  abbrev Changes : (LinkEnd → LinkEnd) → LinkEnd → Type 0
  Changes f m = (link : LinkEnd) → slice_get s.links n ≡ Some link → live_of (with_it m) ≡ changed (place_among n s.links) (f link) (live_of s)

  pub live_made : (f : LinkEnd → LinkEnd) {m : LinkEnd} → m ≡ f l → is_live (f l).port.phase ≡ true → Changes f m
  live_made f {m} e still link found =
      rw (← same_link link found) (made_by m true (ap (λ (k : LinkEnd). is_live k.port.phase) e ∙ still)
      ∙ ap (λ (k : LinkEnd). changed (place_among n s.links) k (live_of s)) e)

  -- likewise where it keeps its addresses and lives on
  pub kept_by : {f : LinkEnd → LinkEnd} → ((k : LinkEnd) → Keeps k (f k)) → {m : LinkEnd} → m ≡ f l → Changes f m
  kept_by {f} keeps made = live_made f made ((keeps l).live l_lives)

  pub kept_if_ok : {A E : Type 0} (r : Result A E) (f : LinkEnd → LinkEnd) (m : LinkEnd) → Keeps l (f l) → OnOk r (m ≡ f l) → (link : LinkEnd) →
      slice_get s.links n ≡ Some link → OnOk r (live_of (with_it m) ≡ changed (place_among n s.links) (f link) (live_of s))
  kept_if_ok r f m keeps made link found = map_ok r (λ e. live_made f e (keeps.live l_lives) link found) made

  -- ---- the index stays one

  module _ {h c : Knows} {marks : List ℕ} (index : IsIndexed items h c marks) where
    module _ {marks' : List ℕ} (marked : marks' ≡ slice_set marks n 1) where
      index_with : {h' c' : Knows} (m : LinkEnd) → is_live m.port.phase ≡ true → ((q : ℕ) → m.port.own ≡ Some q → h' q n ≡ true) →
          ((q : ℕ) → m.port.far ≡ Some q → c' q n ≡ true) → ((q k : ℕ) → h q k ≡ true → h' q k ≡ true) →
          ((q k : ℕ) → c q k ≡ true → c' q k ≡ true) → IsIndexed (set items n m) h' c' marks'
      index_with {h'} {c'} m still own far owns fars =
          subst (λ (ms : List ℕ). IsIndexed (set items n m) h' c' ms) (sym marked)
          (changed_indexed items h c marks index n m shown_within still h' c' own far owns fars)

      same_own : (m : LinkEnd) → m.port.own ≡ l.port.own → (q : ℕ) → m.port.own ≡ Some q → h q n ≡ true
      same_own m own q e = index.own n q l link_there (sym own ∙ e)

      same_far : (m : LinkEnd) → m.port.far ≡ l.port.far → (q : ℕ) → m.port.far ≡ Some q → c q n ≡ true
      same_far m far q e = index.far n q l link_there (sym far ∙ e)

      -- where it has the addresses that it had
      pub index_made : {m : LinkEnd} → Keeps l m → IsIndexed (set items n m) h c marks'
      index_made {m} keeps =
          index_with m (keeps.live l_lives) (same_own m keeps.own) (same_far m keeps.far) (λ q k e. e) (λ q k e. e)

      -- where it gets an own address
      pub index_own : {h' : Knows} {own : ℕ} {m : LinkEnd} (k : LinkEnd) → m ≡ k → is_live k.port.phase ≡ true → k.port.own ≡ Some own →
          k.port.far ≡ l.port.far → h' own n ≡ true → ((q i : ℕ) → h q i ≡ true → h' q i ≡ true) → IsIndexed (set items n m) h' c marks'
      index_own {h'} {own} k made still is far known more = rw made
          (index_with k still (λ q e. ap (λ (a : ℕ). h' a n) (same_Some q own (sym e ∙ is)) ∙ known) (same_far k far) more (λ q i e. e))

      -- where it gets to know a far one
      pub index_far : {c' : Knows} {far : ℕ} {m : LinkEnd} (k : LinkEnd) → m ≡ k → is_live k.port.phase ≡ true → k.port.far ≡ Some far →
          k.port.own ≡ l.port.own → c' far n ≡ true → ((q i : ℕ) → c q i ≡ true → c' q i ≡ true) → IsIndexed (set items n m) h c' marks'
      index_far {c'} {far} k made still is own known more = rw made
          (index_with k still (same_own k own) (λ q e. ap (λ (a : ℕ). c' a n) (same_Some q far (sym e ∙ is)) ∙ known) (λ q i e. e) more)

    -- where it has ended, and no address of it is known
    pub gone_index : {h' c' : Knows} → ((q k : ℕ) → (k ≡ n → ⊥) → h q k ≡ true → h' q k ≡ true) →
        ((q k : ℕ) → (k ≡ n → ⊥) → c q k ≡ true → c' q k ≡ true) → {m : LinkEnd} → m ≡ gone → IsIndexed (set items n m) h' c' marks
    gone_index {h'} {c'} owns fars {m} e =
        subst (λ (k : LinkEnd). IsIndexed (set items n k) h' c' marks) (sym e)
        (set_indexed items h c marks index n gone h' c' marks (record {
          own = λ q is. absurd cc;
          far = λ q is. absurd cc;
          marked = λ duty is. absurd cc;
          lives = λ duty is. absurd cc;
        }) refl owns fars (λ k other is. is))

  -- it ends
  pub ended_made : {m : LinkEnd} → m ≡ gone → live_of (with_it m) ≡ ended (place_among n s.links) (live_of s)
  ended_made {m} over = made_by m false (ap (λ (k : LinkEnd). is_live k.port.phase) over)

  -- a segment comes, and what it makes whole goes to the user
  module _ (seg : SegmentValue) (own : ℕ) (text : List ℕ) (r : Result (Unit {0}) StepFault) (link : LinkEnd)
      (found : slice_get s.links n ≡ Some link) where
    abbrev took : LinkEnd
    took = took_segment seg l

    abbrev delivering : LinkEnd → Delivering
    delivering k = delivering_at (place_among n s.links) (took_segment seg k) (live_of s)

    lines_are : delivers_at own text (delivering l) ≡ option_map (with_left own text (place_among n s.links) took (live_of s))
        (lines_of own text took.variables.pieces)
    lines_are = delivers_lines own text (place_among n s.links) took (live_of s)

    pub received_made : (t : List ℕ) {m : LinkEnd} → Keeps l m → OnOk r (lines_of own text took.variables.pieces ≡ Some t) →
        OnOk r (m ≡ without_whole took) → OnOk r (delivers_at own text (delivering link) ≡ Some (live_of (with_it m), t))
    received_made t {m} keeps lines left = rw (← same_link link found) (go r lines left)
      where
        go : (x : Result (Unit {0}) StepFault) → OnOk x (lines_of own text took.variables.pieces ≡ Some t) → OnOk x (m ≡ without_whole took) →
            OnOk x (delivers_at own text (delivering l) ≡ Some (live_of (with_it m), t))
        go (Ok u) lines left =
            lines_are ∙ ap (option_map (with_left own text (place_among n s.links) took (live_of s))) lines
            ∙ ap (λ (links : StoredLinks). Some (links, t)) (sym (live_made (λ k. without_whole (took_segment seg k)) left
            (ap (λ (k : LinkEnd). is_live k.port.phase) (sym left) ∙ keeps.live l_lives) l link_found))
        go (Err e) lines left = lines

    pub received_stops : IfErr r (λ fault. Stopped (lines_of own text took.variables.pieces) fault) →
        IfErr r (λ fault. Stopped (delivers_at own text (delivering link)) fault)
    received_stops h = rw (← same_link link found) (IfErr-weaker r _ _ (λ fault stop. subst (λ (o : Option (StoredLinks × List ℕ)). Stopped o fault)
        (sym lines_are) (stopped_so _ _ fault stop)) h)

  -- its timer runs out
  pub retry_made : (r : Bool) (m : LinkEnd) → (r ≡ true → retried_end l ≡ Some m) → (link : LinkEnd) → slice_get s.links n ≡ Some link → r ≡ true →
      changed_to (place_among n s.links) (retried_end link) (live_of s) ≡ Some (live_of (with_it m))
  retry_made r m made link found e = rw (← same_link link found)
      (ap (λ (o : Option LinkEnd). changed_to (place_among n s.links) o (live_of s)) (made e)
      ∙ ap Some (sym (made_by m true ((retry_port l m (made e)).live l_lives))))

  pub no_retry : (r : Bool) → (r ≡ false → retried l.port.phase ≡ None) → (link : LinkEnd) → slice_get s.links n ≡ Some link → r ≡ false →
      retried link.port.phase ≡ None
  no_retry r h link found e = rw (← same_link link found) (h e)

-- a change that leaves its addresses, as the tactic finds it
pub change_indexed : {items : List LinkEnd} {confirms : List EndConfirm} {s : StoredLinks} {n : ℕ} {l m k : LinkEnd} {h c : Knows}
    {marks marks' : List ℕ} → m ≡ k → Keeps l k → l ≡ get_or items n l → record { links = items; confirms = confirms } ≡ s →
    n < length s.links → LivesAt n s → marks' ≡ slice_set marks n 1 → IsIndexed items h c marks → IsIndexed (set items n m) h c marks'
change_indexed made keeps there shown within live marked index = index_made shown within there live index marked (as_made made keeps)

pub ruleset changes = (change_indexed, keeps_acted, keeps_called, keeps_closed, keeps_confirmed, keeps_acks)

-- one of them sent this
module _ (s : StoredLinks) (n : ℕ) (duty : Duty) (chosen : link_choice s.confirms s.links ≡ Some (OfLink n duty)) where
  abbrev it : Stands s.links n duty
  it = chosen_stands s.confirms s.links n duty chosen

  pub sent_within : n < length s.links
  sent_within = slice_get_within s.links n it.link it.there

  pub sent_made : {E : Type 0} → AllSilent s → (r : Result (Unit {0}) E) (after : StoredLinks) →
      ((link : LinkEnd) → slice_get s.links n ≡ Some link → OnOk r (after ≡ changed (place_among n s.links) (duty_sent duty link) (live_of s))) →
      OnOk r (after ≡ after_sent (among_live s.links (OfLink n duty)) (live_of s))
  sent_made ended r after made =
      let there = live_get s.links n it.link it.there (ended n it.link duty it.there it.has) in
      map_ok r (λ (e : after ≡ changed (place_among n s.links) (duty_sent duty it.link) (live_of s)). e
      ∙ sym (ap (λ (o : Option LinkEnd). sent_at (place_among n s.links) o duty (live_of s)) there)) (made it.link it.there)
