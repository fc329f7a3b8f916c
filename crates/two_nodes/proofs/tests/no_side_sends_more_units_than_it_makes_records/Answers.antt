-- A counter sends one unit a record at most
use Rattle.std.proofs.Common.{◌≡◌, ◌≤◌, ◌+◌, ℕ, Bool, true, false, [], ◌∷◌, length, arith}
use Rattle.std.specs.Prelude.{cond}
use Rattle.std.proofs.lemmas.List.{length-append}
use Rattle.two_nodes.specs.Nodes.{Half, advance}
use Rattle.two_nodes.specs.Nodes.Outcome.{Made}
use Rattle.two_nodes.specs.Kept.{IsKept}
use Rattle.two_nodes.specs.inner.Example.{Event, SentWithin, counter, counters, counter_tells, unit_named, is_telling}
use Rattle.two_nodes.proofs.Closed.{made-length}
use Rattle.two_nodes.specs.Nodes.{start_world}
use Rattle.two_nodes.proofs.tests.no_side_sends_more_units_than_it_makes_records.Goals as goal

one_at_most : (b : Bool) → cond b 1 0 ≤ 1
one_at_most true = omega arith
one_at_most false = omega arith

one_unit_at_most : (own other half : Half ℕ ℕ) (event : Event) → advance counter own other event ≡ Made half → length half.sent ≤ length own.sent + 1
one_unit_at_most own other half event made =
    let e = made-length own other (counter own.state event) (unit_named event) (is_telling event) half (counter_tells own.state event) made in
    let l = one_at_most (is_telling event) in omega arith

sent_within_kept : IsKept counters SentWithin
sent_within_kept = record {
  by_a = λ w made_a made_b r h within made. record {
    of_a = omega (arith, within.of_a, one_unit_at_most w.a w.b h r made, length-append made_a (r ∷ []));
    of_b = within.of_b;
  };
  by_b = λ w made_a made_b r h within made. record {
    of_a = within.of_a;
    of_b = omega (arith, within.of_b, one_unit_at_most w.b w.a h r made, length-append made_b (r ∷ []));
  };
}

pub returns : goal.returns
returns c = λ end xs ys run. c.always.ensures.from_start (start_world 0 0) end xs ys sent_within_kept
    (record { of_a = omega arith; of_b = omega arith }) run
