use Rattle.accusing_segments.proofs.Prelude.{◌≡◌, ℕ, true, false, sym, subst, ap, ◌∙◌, ◌||◌, List, is_room, fits}
use Rattle.accusing_segments.proofs.Sizes.{told_before, told_now}
use Rattle.accusing_segments.proofs.rooms.Rooms.tell.Goals as goal

pub returns-then-has : goal.returns-then-has
returns-then-has c =
    told_before c.args.own c.args.far c.args.segsize c.args.self.now
    (subst (λ (x : ℕ). fits c.args.self.now c.args.own c.args.far x 0 ≡ true) c.from.ensures (sym (c.has.ensures 0) ∙ c.if-has.true))

pub returns : goal.returns
returns c = λ o f b w.
    told_now c.args.own c.args.far c.args.segsize c.self.inside.sizes c.insert.new.self c.in_ok-insert.ensures.updates
    (ap (λ (sizes : List ((ℕ × ℕ) × ℕ)). fits sizes c.args.own c.args.far c.args.segsize 0) c.self.view_is
    ∙ subst (λ (x : ℕ). fits c.args.self.now c.args.own c.args.far x 0 ≡ false) c.from.ensures (sym (c.has.ensures 0) ∙ c.if-has.false)) o f b w
    ∙ ap (λ (sizes : List ((ℕ × ℕ) × ℕ)). is_room c.args.own c.args.far c.args.segsize o f b w || fits sizes o f b w) c.self.view_is
