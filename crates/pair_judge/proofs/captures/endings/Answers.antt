use Rattle.std.proofs.Common.{[], ◌∷◌, ◌++◌, length, sym, append-nil}
use Rattle.std.proofs.Math.Seq.{take-append_seam}
use Rattle.two_nodes.proofs.Listed.{within}
use Rattle.pair_judge.proofs.OneFinding.{first_of_ended, first_of_waiting}
use Rattle.pair_judge.proofs.captures.endings.Goals as goal

pub returns-clause-accepted : goal.returns-clause-accepted
returns-clause-accepted g c = λ head_a head_b w of_a of_b run. c.shows.ensures head_a head_b w of_a of_b run

pub returns-clause-a_refused : goal.returns-clause-a_refused
returns-clause-a_refused g c = λ head_a head_b w done_a rest_a done_b rest_b r refusal run refused.
    let s = c.shows.ensures head_a head_b w done_a done_b run in
    let there = s.refused_a r refusal refused in
    let ends = c.refused_record.ensures.a_ends _ s.world r refusal done_a rest_a done_b rest_b s.run there in
    let offends = c.refused_record.ensures.a_offends _ _ s.world r refusal done_a rest_a done_b rest_b s.run there in
    record { verdict = (ends, offends); first = tt }

pub returns-clause-b_refused_behind : goal.returns-clause-b_refused_behind
returns-clause-b_refused_behind g c = λ head_a head_b w done_a rest_a done_b rest_b p r refusal run waits refused.
    let s = c.shows.ensures head_a head_b w done_a done_b run in
    let there = s.refused_b r refusal refused in
    let lacks = c.one_waiting.ensures.a_lacks _ _ s.world p done_a rest_a done_b s.run (s.waits_a p waits) in
    let ends = c.refused_record.ensures.b_ends _ s.world r refusal done_a (p ∷ rest_a) done_b rest_b s.run there in
    let offends = c.refused_record.ensures.b_offends _ _ s.world r refusal done_a (p ∷ rest_a) done_b rest_b s.run there in
    record {
      verdict = (ends, offends);
      first = first_of_waiting g.T.Top.top.kind head_a head_b (done_a ++ p ∷ rest_a) (done_b ++ r ∷ rest_b) done_b (length done_a) (length done_b)
          refusal (take-append_seam done_b (r ∷ rest_b)) lacks offends;
    }

pub returns-clause-b_refused_last : goal.returns-clause-b_refused_last
returns-clause-b_refused_last g c = λ head_a head_b w all_a done_b rest_b r refusal run refused.
    let s = c.shows.ensures head_a head_b w all_a done_b run in
    let there = s.refused_b r refusal refused in
    let ends = c.refused_record.ensures.b_ends _ s.world r refusal all_a [] done_b rest_b s.run there in
    let offends = c.refused_record.ensures.b_offends _ _ s.world r refusal all_a [] done_b rest_b s.run there in
    record {
      verdict = rw (sym (append-nil all_a)) (ends, offends);
      first = first_of_ended g.T.Top.top.kind head_a head_b all_a (done_b ++ r ∷ rest_b) done_b (length done_b) (take-append_seam done_b (r ∷ rest_b))
          (within done_b (r ∷ rest_b)) (s.world, s.run);
    }

pub returns-clause-stuck : goal.returns-clause-stuck
returns-clause-stuck g c = λ head_a head_b w done_a rest_a done_b rest_b r s run waits_a waits_b.
    let v = c.shows.ensures head_a head_b w done_a done_b run in
    let stuck = c.both_waiting.ensures.stuck _ _ v.world r s done_a rest_a done_b rest_b v.run (v.waits_a r waits_a) (v.waits_b s waits_b) in
    let none = c.both_waiting.ensures.no_run _ _ (done_a ++ r ∷ rest_a) (done_b ++ s ∷ rest_b) (length done_a) (length done_b) stuck in
    record { verdict = (none, (length done_b, stuck)); first = tt }

pub returns-clause-a_lacks : goal.returns-clause-a_lacks
returns-clause-a_lacks g c = λ head_a head_b w done_a rest_a all_b r run waits.
    let s = c.shows.ensures head_a head_b w done_a all_b run in
    let lacks = c.one_waiting.ensures.a_lacks _ _ s.world r done_a rest_a all_b s.run (s.waits_a r waits) in
    record { verdict = (c.one_waiting.ensures.a_ends _ _ (done_a ++ r ∷ rest_a) all_b (length done_a) lacks, lacks); first = tt }

pub returns-clause-b_lacks : goal.returns-clause-b_lacks
returns-clause-b_lacks g c = λ head_a head_b w all_a done_b rest_b r run waits.
    let s = c.shows.ensures head_a head_b w all_a done_b run in
    let lacks = c.one_waiting.ensures.b_lacks _ _ s.world r all_a done_b rest_b s.run (s.waits_b r waits) in
    record {
      verdict = (c.one_waiting.ensures.b_ends _ _ all_a (done_b ++ r ∷ rest_b) (length done_b) lacks, lacks);
      first = first_of_ended g.T.Top.top.kind head_a head_b all_a (done_b ++ r ∷ rest_b) done_b (length done_b) (take-append_seam done_b (r ∷ rest_b))
          (within done_b (r ∷ rest_b)) (s.world, s.run);
    }
