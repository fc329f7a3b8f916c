-- What an end sends, by what is chosen of all links that it keeps: the same of those that live.
use Rattle.std.proofs.Common.{◌≡◌, Bool, true, false, cond, nat_lt, Option, Some, None, option_map, List, length, Err, refl, sym, subst, ap, ◌∙◌}
use Rattle.std.proofs.Common.{IsSome}
use Rattle.dna_station.specs.Table.{WINDOW}
use Rattle.dna_station.specs.declared.state.State.{State}
use Rattle.dna_station.specs.declared.state.State.TheVariants.{Halted, Istrt, Astrt, Running}
use Rattle.dna_station.specs.WireBook.{wire_is_new}
use Rattle.dna_station.specs.WireStation.{StationVariables}
use Rattle.dna_play.specs.NextSent.{LinkEnd, LinkChoice, Choice, SendStrt, SendStack, SendRep, SendAgain, SendNew, SendAck, when, or_else, new_packet}
use Rattle.dna_play.specs.NextSent.{choice_in, choice, link_choice, lowest_nak}
use Rattle.dna_play.specs.Owed.{Owed}
use Rattle.dna_play.specs.StoredEnd.{StoredLinks, StoredEnd}
use Rattle.dna_play.specs.StoredPlay.{sends, sends_choice}
use Rattle.dna_play.specs.Stop.{BadStep}
use Rattle.player_end.specs.inner.Composing.{is_new}
use Rattle.player_end.specs.inner.Index.{live_ends, among_live, live_of}
use Rattle.player_end.specs.Stepping.{HasUnit}

module _ (links : List LinkEnd) where
  -- the same choice, among those that live
  abbrev seen : Choice → Choice
  seen (SendNew message) = SendNew (among_live links message)
  seen c = c

  seen_old : (c : Choice) → is_new c ≡ false → seen c ≡ c
  seen_old (SendNew message) e = absurd cc
  seen_old c e = refl

  abbrev owing : (a b c d : Bool) → Owed → Owed
  owing a b c d owed = record owed { header_check = a; data_check = b; rep_response = c; no_buffer = d }

  abbrev pick : Option Choice → (rep new room ack : Bool) → Option LinkChoice → Option Choice
  pick nak rep new room ack o =
      or_else nak (or_else (when rep SendRep) (or_else (cond new (cond room (new_packet o) None) (Some SendAgain)) (when ack SendAck)))

  picked : (owed : Owed) (a b c d rep new room ack : Bool) (o : Option LinkChoice) →
      pick (lowest_nak (owing a b c d owed)) rep new room ack (option_map (among_live links) o)
      ≡ option_map seen (pick (lowest_nak (owing a b c d owed)) rep new room ack o)
  picked owed false false false false false true true true None = refl
  picked owed false false false false false true true false None = refl
  picked owed false false false false false true false true o = refl
  picked owed a b c d rep new room ack o = refl

  whens : (b : Bool) (c : Choice) → seen c ≡ c → when b c ≡ option_map seen (when b c)
  whens true c same = ap Some (sym same)
  whens false c same = refl

  module _ (k : StationVariables (Unit {0})) (owed : Owed) (o : Option LinkChoice) where
    choice_live : (state : State) → choice_in state k owed (option_map (among_live links) o) ≡ option_map seen (choice_in state k owed o)
    choice_live Halted = refl
    choice_live Istrt = whens owed.strt SendStrt refl
    choice_live Astrt = whens owed.stack SendStack refl
    choice_live Running = picked owed owed.header_check owed.data_check owed.rep_response owed.no_buffer owed.rep (wire_is_new k)
        (nat_lt (length k.held) WINDOW) owed.ack o

module _ (e : StoredEnd) (s : StoredLinks) (same : e.links ≡ live_of s)
    (among : link_choice s.confirms (live_ends s.links) ≡ option_map (among_live s.links) (link_choice s.confirms s.links)) where
  abbrev all : Option Choice
  all = choice e.station.variables e.station.owed (link_choice s.confirms s.links)

  chosen : (o : Option Choice) → all ≡ o →
      choice e.station.variables e.station.owed (link_choice e.links.confirms e.links.links) ≡ option_map (seen s.links) o
  chosen o is =
      ap (λ (l : StoredLinks). choice e.station.variables e.station.owed (link_choice l.confirms l.links)) same
      ∙ ap (choice e.station.variables e.station.owed) among
      ∙ choice_live s.links e.station.variables e.station.owed (link_choice s.confirms s.links) e.station.variables.state
      ∙ ap (option_map (seen s.links)) is

  pub sends_none : all ≡ None → sends e ≡ Err BadStep
  sends_none none = ap (sends_choice e) (chosen None none)

  pub sends_of_links : (message : LinkChoice) → all ≡ Some (SendNew message) →
      sends e ≡ sends_choice e (Some (SendNew (among_live s.links message)))
  sends_of_links message is = ap (sends_choice e) (chosen (Some (SendNew message)) is)

  pub sends_others : (c : Choice) → all ≡ Some c → is_new c ≡ false → sends e ≡ sends_choice e (Some c)
  sends_others c is old = ap (sends_choice e) (chosen (Some c) is ∙ ap Some (seen_old s.links c old))

  pub has_unit : (c : Choice) → all ≡ Some c → HasUnit e
  has_unit c is = subst IsSome (sym (chosen (Some c) is)) refl

pub ruleset sent_live = (sends_none, sends_others, has_unit)
