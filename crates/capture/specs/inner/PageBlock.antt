-- The block of a page.
use Rattle.std.specs.Prelude.{◌≤◌, vec_capacity}
use Rattle.capture.specs.declared.page.Page.TheInside.{Inside}
use Rattle.capture.specs.declared.page.TheConstants.{PAGE_SIZE}

-- bytes up to the size of a page take no memory
pub record HasRoom (page : Inside) : Type 0 where
  pub room : PAGE_SIZE ≤ vec_capacity page.block
