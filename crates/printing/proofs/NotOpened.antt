-- What is printed of a file that can't be opened, where memory was not what was wanting.
use Rattle.std.proofs.Common.{◌≡◌, ℕ, List, ◌⊎◌, refl}
use Rattle.std.specs.declared.io.ErrorKind.{ErrorKind}
use Rattle.std.specs.declared.io.ErrorKind.TheVariants as kind
use Rattle.printing.specs.declared.files.Named.{Named}
use Rattle.pair_judge.specs.declared.fault.JudgeFault.TheVariants.{OutOfMemory}
use Rattle.printing.specs.Printed.{Moved, Writes, fault_text, not_opened_says, not_opened_text}
use Rattle.printing.specs.NotOpened.{IsPathNotOpened, path_not_opened_text}

pub says_file : (file : Named) (why : ErrorKind) → (why ≡ kind.OutOfMemory → ⊥) → not_opened_says file why ≡ not_opened_text file
says_file file kind.OutOfMemory other = absurd (other refl)
says_file file _ other = refl

-- the same with the path
pub says_path : (err : Moved) (file : Named) (path : List ℕ) (why : ErrorKind) (status : ℕ) → (why ≡ kind.OutOfMemory → ⊥) →
    Writes err.old err.new (path_not_opened_text file path) 3 status ⊎ Writes err.old err.new (fault_text OutOfMemory) 3 status →
    IsPathNotOpened err file path why status
says_path err file path kind.OutOfMemory status other told = absurd (other refl)
says_path err file path _ status other told = told
