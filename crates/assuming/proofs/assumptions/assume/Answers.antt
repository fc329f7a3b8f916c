use Rattle.assuming.proofs.assumptions.assume.Goals as goal

pub returns : goal.returns
returns g c =
    let a = c.in-Ok.ensures in
    let b = c.in-Ok-load.ensures in
    record {
      a = a.0;
      b = b.0;
      read_a = a.1;
      read_b = b.1;
      assumed = c.in-Ok-sift.ensures a.0 b.0 a.2 b.2;
      long = c.too_long-too_long.ensures a.0 b.0 a.2 b.2;
    }
