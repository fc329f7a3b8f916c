use Rattle.std.proofs.Common.{◌≡◌, false, rules, Some, refl, sym, subst, ap, ◌∙◌}
use Rattle.std.specs.Option.{option_map}
use Rattle.dna_play.specs.StoredEnd.{StoredLinks}
use Rattle.dna_play.specs.StoredPlay.{sends, sends_choice}
use Rattle.dna_play.specs.NextSent.{SendNew, choice, link_choice}
use Rattle.player_end.specs.declared.choice.Choice.{Choice}
use Rattle.player_end.specs.inner.Composing.{is_new}
use Rattle.player_end.specs.inner.Owing.{choice_view, link_choice_view}
use Rattle.player_end.specs.inner.Sending.{end_with, sends_new}
use Rattle.player_end.specs.Stepping.{HasUnit}
use Rattle.player_end.proofs.Choosing.{chosen}
use Rattle.player_end.proofs.Sends.{has_unit, sends_of_links, sends_others}
use Rattle.player_end.proofs.end.End.send.Goals as goal

pub send_new-requires-clause-next : goal.send_new-requires-clause-next
send_new-requires-clause-next g c =
    let i = c.self.inside in
    subst (λ (t : StoredLinks). link_choice t.confirms t.links ≡ Some (link_choice_view c.in-New.message)) (sym c.choice-next.ensures.same)
    (sym c.choice-next.ensures.choice
    ∙ (chosen (link_choice_view c.in-New.message) i.station.variables i.station.owed (option_map link_choice_view c.choice-next.result)
    (sym c.in-Some.ensures ∙ ap (λ (x : Choice). Some (choice_view x)) c.in-New.is)).0)

pub returns-in-New : goal.returns-in-New
returns-in-New g c =
    let i = c.self.inside in
    let message = link_choice_view c.in-New.message in
    let end = end_with i.head i.station i.links i.addresses i.passed in
    let all = ap (choice i.station.variables i.station.owed) (sym c.choice-next.ensures.choice) ∙ sym c.in-Some.ensures
    ∙ ap (λ (x : Choice). Some (choice_view x)) c.in-New.is in
    let same =
    ap sends (sym c.self.view_is)
    ∙ sends_of_links end i.links refl c.choice-next.ensures.live message all
    ∙ ap (λ (t : StoredLinks). sends_new i.head i.station t i.addresses i.passed message) (sym c.choice-next.ensures.same) in
    record {
      ok = rw same (c.send_new.ensures.ok i.addresses i.passed);
      short = c.send_new.ensures.short;
      stop = rw same (c.send_new.ensures.stop i.addresses i.passed);
      memory = λ e. subst HasUnit c.self.view_is (has_unit end i.links refl c.choice-next.ensures.live (SendNew message) all);
    }

pub returns-in-Strt : goal.returns-in-Strt
returns-in-Strt g c =
    let i = c.self.inside in
    let chosen = choice_view c.in-Some.choice in
    let end = end_with i.head i.station i.links i.addresses i.passed in
    let all = ap (choice i.station.variables i.station.owed) (sym c.choice-next.ensures.choice) ∙ sym c.in-Some.ensures in
    let old : is_new chosen ≡ false = search rules in
    let same =
    ap sends (sym c.self.view_is)
    ∙ sends_others end i.links refl c.choice-next.ensures.live chosen all old
    ∙ ap (λ (t : StoredLinks). sends_choice (end_with i.head i.station t i.addresses i.passed) (Some chosen)) (sym c.choice-next.ensures.same) in
    record {
      ok = rw same c.send_other.ensures.ok;
      short = c.send_other.ensures.short;
      stop = rw same c.send_other.ensures.stop;
      memory = λ e. subst HasUnit c.self.view_is (has_unit end i.links refl c.choice-next.ensures.live chosen all);
    }
