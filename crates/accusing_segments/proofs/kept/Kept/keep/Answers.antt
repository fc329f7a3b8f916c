use Rattle.accusing_segments.proofs.Prelude.{List, ◌||◌, ap, ◌∙◌, inserted, is_this, has}
use Rattle.accusing_segments.proofs.Known.{Four, four_compared, four_exact}
use Rattle.accusing_segments.proofs.kept.Kept.keep.Goals as goal

pub returns : goal.returns
returns c = λ o f n w.
    ap (λ (ids : List Four). has ids o f n w) c.in_ok-insert.ensures.keys
    ∙ inserted four_compared four_exact (λ (id : Four). is_this id o f n w) c.self.inside.known.keys
    (c.args.own, c.args.far, c.args.number, c.args.what)
    ∙ ap (λ (ids : List Four). is_this (c.args.own, c.args.far, c.args.number, c.args.what) o f n w || has ids o f n w) c.self.view_is
