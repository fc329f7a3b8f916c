-- Events: what is read is the event's one spelling, and its spelling is read.
use Rattle.std.proofs.Common.{◌≡◌, ℕ, ◌^◌, ◌<◌, ◌≤◌, Bool, true, false, List, [], ◌∷◌, ◌++◌, length, Some, Ok, Err, cond, get_or}
use Rattle.std.proofs.Common.{refl, ap, ◌∙◌, arith, lit<}
use Rattle.std.specs.Prelude.{IsTrue, codes}
use Rattle.std.specs.Fmt.{decimal}
use Rattle.std.specs.Str.{bytes_eq}
use Rattle.std.proofs.lemmas.Bool.{cond_both}
use Rattle.std.proofs.lemmas.Slice.Eq.{bytes_eq-Decides}
use Rattle.hex.specs.Hex.{IsBytes}
use Rattle.capture_record.specs.declared.limit.TheConstants.{MAX_LINK, MAX_MESSAGE, MAX_INTERRUPT}
use Rattle.capture_record.specs.declared.event.Event.{Event}
use Rattle.capture_record.specs.declared.event.Event.TheVariants.{Start, Halt, Open, Accept, Reject, In, Up, Close}
use Rattle.capture_record.specs.declared.event.Event.TheVariants.{Boot, Abort, Composed, Interrupt, Interrupted}
use Rattle.capture.specs.declared.fault.Departure.TheVariants.{Syntax}
use Rattle.capture_record.specs.declared.record.Record.{Record}
use Rattle.capture_record.specs.declared.record.Record.TheVariants.{User}
use Rattle.capture.specs.Text.{spaced, bytes_text, event_front, event_text}
use Rattle.capture_record.specs.Range.{IsLink, EventNumbersFit, event_bytes, most_of_event}
use Rattle.capture.specs.Range.{in_each_format}
use Rattle.capture.specs.Reading.{after, cut_at, positive_at, bytes_at, links_at, message_at, message_within, wide_event_at, link_event_at, event_at}
use Rattle.capture.proofs.PartLaws.{after_takes, cut_takes, cut_again}
use Rattle.capture.proofs.NumberLaws.{positive_takes, positive_again, decimal_lacks}
use Rattle.capture.proofs.BytesLaws.{IsBytesOf, IsLongOf, bytes_shows, bytes_again, limited, limited_then}
use Rattle.capture.proofs.Shown.{Shows, shows_map, shows_must, shows_or_else}

pub link_takes : (text : List ℕ) (link : ℕ) → positive_at MAX_LINK text ≡ Some link → (text ≡ decimal link) × IsLink link
link_takes text link e = let p = positive_takes MAX_LINK text link (lit< tt) e in (p.0, record { least = p.2; most = p.1 })

pub link_again : (link : ℕ) → IsLink link → positive_at MAX_LINK (decimal link) ≡ Some link
link_again link h = positive_again MAX_LINK link (lit< tt) h.most h.least

link_lacks : (link : ℕ) → IsLink link → link < 2 ^ 64
link_lacks link h = let most = h.most in omega arith

-- ---- two links

abbrev AreLinksOf : List ℕ → ℕ × ℕ → Type 0
AreLinksOf text m = (text ≡ spaced (decimal m.0) (decimal m.1)) × IsLink m.0 × IsLink m.1

abbrev Never : {A : Type 0} → A → Type 0
Never x = ⊥

links_show : (text : List ℕ) → Shows (AreLinksOf text) Never (links_at text)
unfolding links_at
links_show text =
    shows_must (AreLinksOf text) Never (cut_at 32 text) _ (λ parts cut.
    shows_must (AreLinksOf text) Never (positive_at MAX_LINK parts.0) _ (λ partner first.
    shows_must (AreLinksOf text) Never (positive_at MAX_LINK parts.1) _ (λ link second.
    let p = link_takes parts.0 partner first in
    let q = link_takes parts.1 link second in
    (cut_takes 32 text parts cut ∙ ap (λ (t : List ℕ). t ++ 32 ∷ parts.1) p.0 ∙ ap (λ (t : List ℕ). decimal partner ++ 32 ∷ t) q.0, p.1, q.1))))

links_again : (partner link : ℕ) → IsLink partner → IsLink link → links_at (spaced (decimal partner) (decimal link)) ≡ Ok (partner, link)
unfolding links_at
links_again partner link p q =
    rw (
      cut_again 32 (decimal partner) (decimal link) (decimal_lacks 32 partner (lit< tt) (link_lacks partner p)),
      link_again partner p,
      link_again link q,
    ) refl

-- ---- a link and a message

abbrev IsWithin : ℕ → List ℕ → ℕ × List ℕ → Type 0
IsWithin most text m = (text ≡ spaced (decimal m.0) (bytes_text m.1)) × IsLink m.0 × IsBytes m.1 × (length m.1 ≤ most)

abbrev IsBeyond : ℕ → List ℕ → ℕ × List ℕ → Type 0
IsBeyond most text m = (text ≡ spaced (decimal m.0) (bytes_text m.1)) × IsLink m.0 × IsBytes m.1 × (most < length m.1)

within_shows : (most : ℕ) (text : List ℕ) → Shows (IsWithin most text) (IsBeyond most text) (message_within most text)
unfolding message_within
within_shows most text =
    shows_must (IsWithin most text) (IsBeyond most text) (cut_at 32 text) _ (λ parts cut.
    shows_must (IsWithin most text) (IsBeyond most text) (positive_at MAX_LINK parts.0) _ (λ link first.
    let p = link_takes parts.0 link first in
    let front = cut_takes 32 text parts cut ∙ ap (λ (t : List ℕ). t ++ 32 ∷ parts.1) p.0 in
    shows_map (IsBytesOf most parts.1) (IsLongOf most parts.1) (IsWithin most text) (IsBeyond most text) (λ bytes. (link, bytes))
    (bytes_at most parts.1) (bytes_shows most parts.1)
    (λ bytes h. (front ∙ ap (λ (t : List ℕ). decimal link ++ 32 ∷ t) h.0, p.1, h.1, h.2))
    (λ bytes h. (front ∙ ap (λ (t : List ℕ). decimal link ++ 32 ∷ t) h.0, p.1, h.1, h.2))))

within_again : (most link : ℕ) (bytes : List ℕ) → IsLink link → IsBytes bytes →
    message_within most (spaced (decimal link) (bytes_text bytes)) ≡ limited most bytes (link, bytes)
unfolding message_within
within_again most link bytes h fits =
    rw (
      cut_again 32 (decimal link) (bytes_text bytes) (decimal_lacks 32 link (lit< tt) (link_lacks link h)),
      link_again link h,
      bytes_again most bytes fits,
    ) (limited_then most bytes bytes (λ b. (link, b)))

abbrev pub IsMessageOf : List ℕ → ℕ × List ℕ → Type 0
IsMessageOf text m = IsWithin MAX_MESSAGE text m

abbrev pub IsLongMessageOf : List ℕ → ℕ × List ℕ → Type 0
IsLongMessageOf text m = IsBeyond MAX_MESSAGE text m

pub message_shows : (text : List ℕ) → Shows (IsMessageOf text) (IsLongMessageOf text) (message_at text)
unfolding message_at
message_shows text = within_shows MAX_MESSAGE text

pub message_again : (link : ℕ) (bytes : List ℕ) → IsLink link → IsBytes bytes → message_at (spaced (decimal link) (bytes_text bytes)) ≡ limited
    MAX_MESSAGE bytes (link, bytes)
unfolding message_at
message_again link bytes h fits = within_again MAX_MESSAGE link bytes h fits

-- ---- events

-- the lines that format 3 alone has are there too, or each format has such a record
abbrev pub IsAllowed : (wide : Bool) → Record → Type 0
IsAllowed true r = Unit {0}
IsAllowed false r = IsTrue (in_each_format r)

pub allowed : (wide : Bool) (r : Record) → in_each_format r ≡ true → IsAllowed wide r
allowed true r e = tt
allowed false r e = e

not_u : codes "x " ≡ codes "u " → ⊥
not_u e = omega (arith, ap (λ (t : List ℕ). get_or t 0 0) e)

pub not_allowed : IsTrue false → ⊥
not_allowed h = cc

-- an event whose line begins with `u` that was read, and one that was read except for the length of its bytes
abbrev pub IsEventOf : (wide : Bool) → List ℕ → Event → Type 0
IsEventOf wide text e = (text ≡ event_text e) × EventNumbersFit e × IsBytes (event_bytes e) × (length (event_bytes e) ≤ most_of_event e)
    × (event_front e ≡ codes "u ") × IsAllowed wide (User e)

abbrev pub IsLongEventOf : (wide : Bool) → List ℕ → Event → Type 0
IsLongEventOf wide text e = (text ≡ event_text e) × EventNumbersFit e × IsBytes (event_bytes e) × (most_of_event e < length (event_bytes e))
    × (event_front e ≡ codes "u ") × IsAllowed wide (User e)

pub no_bytes : IsBytes []
no_bytes i = omega arith

wide_event_shows : (text : List ℕ) → Shows (IsEventOf true text) (IsLongEventOf true text) (wide_event_at text)
unfolding wide_event_at
wide_event_shows text =
    cond_both (bytes_eq text (codes "boot")) _ _ (Shows (IsEventOf true text) (IsLongEventOf true text))
    (λ t. ((bytes_eq-Decides text (codes "boot")).0 t, tt, no_bytes, omega arith, refl, tt)) (λ _.
    shows_or_else (IsEventOf true text) (IsLongEventOf true text) (after (codes "abort ") text) _ _
    (λ rest e. shows_must (IsEventOf true text) (IsLongEventOf true text) (positive_at MAX_LINK rest) _ (λ link f.
    let p = link_takes rest link f in
    (after_takes (codes "abort ") text rest e ∙ ap (λ (t : List ℕ). codes "abort " ++ t) p.0, p.1, no_bytes, omega arith, refl, tt)))
    (shows_or_else (IsEventOf true text) (IsLongEventOf true text) (after (codes "interrupt ") text) _ _
    (λ rest e. shows_map (IsWithin MAX_INTERRUPT rest) (IsBeyond MAX_INTERRUPT rest) (IsEventOf true text) (IsLongEventOf true text)
    (λ m. Interrupt m.0 m.1) (message_within MAX_INTERRUPT rest) (within_shows MAX_INTERRUPT rest)
    (λ m h. (after_takes (codes "interrupt ") text rest e ∙ ap (λ (t : List ℕ). codes "interrupt " ++ t) h.0, h.1, h.2, h.3, refl, tt))
    (λ m h. (after_takes (codes "interrupt ") text rest e ∙ ap (λ (t : List ℕ). codes "interrupt " ++ t) h.0, h.1, h.2, h.3, refl, tt)))
    (shows_or_else (IsEventOf true text) (IsLongEventOf true text) (after (codes "interrupted ") text) _ _
    (λ rest e. shows_map (IsWithin MAX_INTERRUPT rest) (IsBeyond MAX_INTERRUPT rest) (IsEventOf true text) (IsLongEventOf true text)
    (λ m. Interrupted m.0 m.1) (message_within MAX_INTERRUPT rest) (within_shows MAX_INTERRUPT rest)
    (λ m h. (after_takes (codes "interrupted ") text rest e ∙ ap (λ (t : List ℕ). codes "interrupted " ++ t) h.0, h.1, h.2, h.3, refl, tt))
    (λ m h. (after_takes (codes "interrupted ") text rest e ∙ ap (λ (t : List ℕ). codes "interrupted " ++ t) h.0, h.1, h.2, h.3, refl, tt)))
    tt)))

if_wide_event_shows : (wide : Bool) (text : List ℕ) →
    Shows (IsEventOf wide text) (IsLongEventOf wide text) (cond wide (wide_event_at text) (Err Syntax))
if_wide_event_shows true text = wide_event_shows text
if_wide_event_shows false text = tt

link_event_shows : (wide : Bool) (text : List ℕ) → Shows (IsEventOf wide text) (IsLongEventOf wide text) (link_event_at wide text)
unfolding link_event_at
link_event_shows wide text =
    shows_or_else (IsEventOf wide text) (IsLongEventOf wide text) (after (codes "open ") text) _ _
    (λ rest e. shows_must (IsEventOf wide text) (IsLongEventOf wide text) (positive_at MAX_LINK rest) _ (λ link f.
    let p = link_takes rest link f in (
      after_takes (codes "open ") text rest e ∙ ap (λ (t : List ℕ). codes "open " ++ t) p.0,
      p.1,
      no_bytes,
      omega arith,
      refl,
      allowed wide (User (Open link)) refl,
    )))
    (shows_or_else (IsEventOf wide text) (IsLongEventOf wide text) (after (codes "close ") text) _ _
    (λ rest e. shows_must (IsEventOf wide text) (IsLongEventOf wide text) (positive_at MAX_LINK rest) _ (λ link f.
    let p = link_takes rest link f in (
      after_takes (codes "close ") text rest e ∙ ap (λ (t : List ℕ). codes "close " ++ t) p.0,
      p.1,
      no_bytes,
      omega arith,
      refl,
      allowed wide (User (Close link)) refl,
    )))
    (shows_or_else (IsEventOf wide text) (IsLongEventOf wide text) (after (codes "accept ") text) _ _
    (λ rest e. shows_map (AreLinksOf rest) Never (IsEventOf wide text) (IsLongEventOf wide text) (λ m. Accept m.0 m.1) (links_at rest)
    (links_show rest)
    (λ m h. (
      after_takes (codes "accept ") text rest e ∙ ap (λ (t : List ℕ). codes "accept " ++ t) h.0,
      (h.1, h.2),
      no_bytes,
      omega arith,
      refl,
      allowed wide (User (Accept m.0 m.1)) refl,
    ))
    (λ m h. absurd h))
    (shows_or_else (IsEventOf wide text) (IsLongEventOf wide text) (after (codes "reject ") text) _ _
    (λ rest e. shows_map (AreLinksOf rest) Never (IsEventOf wide text) (IsLongEventOf wide text) (λ m. Reject m.0 m.1) (links_at rest)
    (links_show rest)
    (λ m h. (
      after_takes (codes "reject ") text rest e ∙ ap (λ (t : List ℕ). codes "reject " ++ t) h.0,
      (h.1, h.2),
      no_bytes,
      omega arith,
      refl,
      allowed wide (User (Reject m.0 m.1)) refl,
    ))
    (λ m h. absurd h))
    (if_wide_event_shows wide text))))

pub event_shows : (wide : Bool) (text : List ℕ) → Shows (IsEventOf wide text) (IsLongEventOf wide text) (event_at wide text)
unfolding event_at
event_shows wide text =
    cond_both (bytes_eq text (codes "start")) _ _ (Shows (IsEventOf wide text) (IsLongEventOf wide text))
    (λ t. ((bytes_eq-Decides text (codes "start")).0 t, tt, no_bytes, omega arith, refl, allowed wide (User Start) refl)) (λ _.
    cond_both (bytes_eq text (codes "halt")) _ _ (Shows (IsEventOf wide text) (IsLongEventOf wide text))
    (λ t. ((bytes_eq-Decides text (codes "halt")).0 t, tt, no_bytes, omega arith, refl, allowed wide (User Halt) refl)) (λ _.
    shows_or_else (IsEventOf wide text) (IsLongEventOf wide text) (after (codes "in ") text) _ _
    (λ rest e. shows_map (IsMessageOf rest) (IsLongMessageOf rest) (IsEventOf wide text) (IsLongEventOf wide text) (λ m. In m.0 m.1)
    (message_at rest)
    (message_shows rest)
    (λ m h. (in_takes rest e m h.0, h.1, h.2, h.3, refl, allowed wide (User (In m.0 m.1)) refl))
    (λ m h. (in_takes rest e m h.0, h.1, h.2, h.3, refl, allowed wide (User (In m.0 m.1)) refl)))
    (shows_or_else (IsEventOf wide text) (IsLongEventOf wide text) (after (codes "up ") text) _ _
    (λ rest e. shows_map (IsMessageOf rest) (IsLongMessageOf rest) (IsEventOf wide text) (IsLongEventOf wide text) (λ m. Up m.0 m.1)
    (message_at rest)
    (message_shows rest)
    (λ m h. (up_takes rest e m h.0, h.1, h.2, h.3, refl, allowed wide (User (Up m.0 m.1)) refl))
    (λ m h. (up_takes rest e m h.0, h.1, h.2, h.3, refl, allowed wide (User (Up m.0 m.1)) refl)))
    (link_event_shows wide text))))
  where
    in_takes : (rest : List ℕ) → after (codes "in ") text ≡ Some rest → (m : ℕ × List ℕ) → rest ≡ spaced (decimal m.0) (bytes_text m.1) →
        text ≡ event_text (In m.0 m.1)
    in_takes rest e m is = after_takes (codes "in ") text rest e ∙ ap (λ (t : List ℕ). codes "in " ++ t) is

    up_takes : (rest : List ℕ) → after (codes "up ") text ≡ Some rest → (m : ℕ × List ℕ) → rest ≡ spaced (decimal m.0) (bytes_text m.1) →
        text ≡ event_text (Up m.0 m.1)
    up_takes rest e m is = after_takes (codes "up ") text rest e ∙ ap (λ (t : List ℕ). codes "up " ++ t) is

pub event_again : (wide : Bool) (e : Event) → EventNumbersFit e → IsBytes (event_bytes e) → IsAllowed wide (User e) → event_front e ≡ codes "u " →
    event_at wide (event_text e) ≡ limited (most_of_event e) (event_bytes e) e
unfolding event_at link_event_at wide_event_at
event_again wide Start h fits a u = refl
event_again wide Halt h fits a u = refl
event_again wide (Open link) h fits a u = rw (link_again link h) refl
event_again wide (Accept partner link) h fits a u = rw (links_again partner link h.0 h.1) refl
event_again wide (Reject partner link) h fits a u = rw (links_again partner link h.0 h.1) refl
event_again wide (In link bytes) h fits a u =
    rw (message_again link bytes h fits) (limited_then MAX_MESSAGE bytes (link, bytes) (λ m. In m.0 m.1))
event_again wide (Up link bytes) h fits a u =
    rw (message_again link bytes h fits) (limited_then MAX_MESSAGE bytes (link, bytes) (λ m. Up m.0 m.1))
event_again wide (Close link) h fits a u = rw (link_again link h) refl
event_again true Boot h fits a u = refl
event_again true (Abort link) h fits a u = rw (link_again link h) refl
event_again wide (Composed bytes) h fits a u = absurd (not_u u)
event_again true (Interrupt link bytes) h fits a u =
    rw (within_again MAX_INTERRUPT link bytes h fits) (limited_then MAX_INTERRUPT bytes (link, bytes) (λ m. Interrupt m.0 m.1))
event_again true (Interrupted link bytes) h fits a u =
    rw (within_again MAX_INTERRUPT link bytes h fits) (limited_then MAX_INTERRUPT bytes (link, bytes) (λ m. Interrupted m.0 m.1))
event_again false Boot h fits a u = absurd (not_allowed a)
event_again false (Abort link) h fits a u = absurd (not_allowed a)
event_again false (Interrupt link bytes) h fits a u = absurd (not_allowed a)
event_again false (Interrupted link bytes) h fits a u = absurd (not_allowed a)
