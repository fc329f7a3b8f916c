-- What the user of an end's links may do is done: where the rule of a step holds, its event is made.
use Rattle.dna_play.proofs.Prelude.{◌≡◌, refl, ℕ, ◌<◌, Bool, true, ◌&&◌, Some, None, List, Ok, ap, ap₂, arith, subst, sym, slice_get, and_parts}
use Rattle.dna_play.proofs.Prelude.{same_Some, Event, User, Without, Phase, Disconnecting, LiveAt, CalledBy, is_live, is_at, is_calling}
use Rattle.dna_play.proofs.Prelude.{is_connected, takes_messages, LinkOf, number_of, begun, changed, in_phase, with_segments, ended, LinkEventValue}
use Rattle.dna_play.proofs.Prelude.{Open, In, opened, answers, TrueSegments, true_segments, Links, links_user, link_event, Layers}
use Rattle.dna_play.proofs.Prelude.{layers_user, with_links, by_bytes, has_line, end_step, makes, IsFound, at_is, LinkList, AreAddressed}
use Rattle.dna_play.proofs.Prelude.{freed_same}
use Rattle.capture_record.specs.declared.event.Event.TheVariants as events
use Rattle.dna_links.specs.User.{Close, Abort, Boot}
use Rattle.dna_links.specs.inner.Forms as forms
use Rattle.dna_play.proofs.{Played.Steps.PlayHalf, Ends.Stage.with_left, Ends.TrueEnd.links_of}
use Rattle.dna_play.proofs.Links.Pays.{found_at, is_there, none_found}

-- ---- an event is made

-- what is of the links alone
abbrev pub IsOfLinks : LinkEventValue → Type 0
IsOfLinks Boot = ⊥
IsOfLinks value = Unit {0}

alone_is : (s : Layers) (event : Event) (value : LinkEventValue) → link_event event ≡ Some value → IsOfLinks value →
    layers_user by_bytes s event ≡ with_links s (links_user Without s.links value)
alone_is s events.Boot value is alone = absurd (subst IsOfLinks (sym (same_Some Boot value is)) alone)
alone_is s events.Start value is alone = absurd cc
alone_is s events.Halt value is alone = absurd cc
alone_is s (events.Composed packet) value is alone = absurd cc
alone_is s (events.Interrupt link bytes) value is alone = absurd cc
alone_is s (events.Interrupted link bytes) value is alone = absurd cc
alone_is s event value is alone = ap (λ (v : LinkEventValue). with_links s (links_user Without s.links v)) (same_Some _ value is)

-- one that the links take, and that has a line
pub event_makes : (own other : PlayHalf) (event : Event) (value : LinkEventValue) (left : Links) → link_event event ≡ Some value → IsOfLinks value →
    has_line (User event) ≡ true →
    links_user Without (links_of own) value ≡ Ok left → makes own other (User event) ≡ Some (with_left own left)
unfolding end_step
event_makes own other event value left is alone lined does_it = rw (lined, alone_is own.state.station event value is alone, does_it) refl

-- ---- the links take it

module _ (s : Links) (others : LinkList) (most : ℕ) (addressed : AreAddressed s.links others most) where
  -- a live link is the only one with its own address
  pub live_found : (address number : ℕ) (link : LinkOf TrueSegments) → slice_get s.links number ≡ Some link → link.port.own ≡ Some address →
      is_live link.port.phase ≡ true →
      IsFound (LiveAt address) s number link
  live_found address number link there owns live = found_at s (LiveAt address) number link there
      (ap₂ (λ (b c : Bool). b && c) live (is_there link.port.own address owns))
      (λ j m at e. addressed.distinct j number address
      (record { link = m; there = at; owns = at_is m.port.own address (and_parts (is_live m.port.phase) (is_at m.port.own address) e).1 })
      (record { link = link; there = there; owns = owns }))

  -- no link has an address that was not given yet
  free : (address : ℕ) → most < address → number_of (LiveAt address) s ≡ None
  free address less = none_found s (LiveAt address) (λ j m at e.
      let l = addressed.highest j address (record {
        link = m;
        there = at;
        owns =
            at_is m.port.own address (and_parts (is_live m.port.phase) (is_at m.port.own address) e).1;
      }) in absurd (omega arith))

  pub open_goes : (address : ℕ) → most < address → links_user Without s (Open address) ≡ Ok (begun (opened true_segments address) s)
  open_goes address less = rw (free address less, freed_same s others most addressed address less) refl

  -- a call is accepted or rejected
  pub answer_goes : (phase : Phase) (partner address number : ℕ) (link : LinkOf TrueSegments) → IsFound (CalledBy partner) s number link →
      most < address →
      answers true_segments phase partner address s ≡ Ok (changed number (forms.answered true_segments phase address link) s)
  answer_goes phase partner address number link found less =
      rw (found.found, found.there, free address less, freed_same s others most addressed address less) refl

pub in_goes : (s : Links) (address : ℕ) (message : List ℕ) (number : ℕ) (link : LinkOf TrueSegments) → IsFound (LiveAt address) s number link →
    takes_messages link.port.phase ≡ true →
    links_user Without s (In address message) ≡ Ok (changed number (with_segments (true_segments.hands_in message link.segments) link) s)
in_goes s address message number link found may = rw (found.found, found.there, may) refl

pub close_goes : (s : Links) (address number : ℕ) (link : LinkOf TrueSegments) → IsFound (LiveAt address) s number link →
    is_connected link.port.phase ≡ true → links_user Without s (Close address) ≡ Ok (changed number (in_phase Disconnecting link) s)
close_goes s address number link found may = rw (found.found, found.there, may) refl

pub abort_goes : (s : Links) (address number : ℕ) (link : LinkOf TrueSegments) → IsFound (LiveAt address) s number link →
    is_calling link.port.phase ≡ true → links_user Without s (Abort address) ≡ Ok (changed number (ended true_segments link) s)
abort_goes s address number link found may = rw (found.found, found.there, may) refl
