-- What is printed of a file that can't be opened, with its path, and of one that is another one of the program's files.
use Rattle.std.specs.Prelude.{◌≡◌, ℕ, ◌⊎◌, List, ◌++◌, codes, map, if◌then◌else◌, nat_eq, nat_lt}
use Rattle.std.specs.Fmt.{decimal}
use Rattle.std.specs.declared.io.ErrorKind.{ErrorKind}
use Rattle.std.specs.declared.io.ErrorKind.TheVariants as kind
use Rattle.pair_judge.specs.declared.fault.JudgeFault.TheVariants.{OutOfMemory}
use Rattle.printing.specs.declared.files.Named.{Named}
use Rattle.printing.specs.declared.files.Named.TheVariants as named
use Rattle.printing.specs.Printed.{Moved, Writes, fault_text}

abbrev pub name_of : Named → List ℕ
name_of named.Script = codes "script"
name_of named.Wire = codes "wire"
name_of named.A = codes "a"
name_of named.B = codes "b"
name_of named.Svg = codes "svg"
name_of named.OutA = codes "out a"
name_of named.OutB = codes "out b"

-- a control character of ASCII is told as `?`
abbrev pub told_byte : ℕ → ℕ
told_byte byte = if nat_lt byte 32 then 63 else if nat_eq byte 127 then 63 else byte

-- a path, as it is told in its line
abbrev pub told_path : List ℕ → List ℕ
told_path path = map told_byte path

-- `a: cannot open: PATH`
abbrev pub path_not_opened_text : Named → (path : List ℕ) → List ℕ
path_not_opened_text file path = name_of file ++ (codes ": cannot open: " ++ (told_path path ++ codes "\n"))

-- where opening it failed with an error of this kind; where there is no memory for the line, that is told
abbrev pub IsPathNotOpened : (err : Moved) → Named → (path : List ℕ) → ErrorKind → (status : ℕ) → Type 0
IsPathNotOpened err file path kind.OutOfMemory status = Writes err.old err.new (fault_text OutOfMemory) 3 status
IsPathNotOpened err file path _ status =
    Writes err.old err.new (path_not_opened_text file path) 3 status ⊎ Writes err.old err.new (fault_text OutOfMemory) 3 status

-- `b: same file as a`
abbrev pub same_file_text : Named → (other : Named) → List ℕ
same_file_text file other = name_of file ++ (codes ": same file as " ++ (name_of other ++ codes "\n"))

-- `pair 2: A B`, after what is told of a pair where there are more
abbrev pub pair_text : (number : ℕ) (path_a path_b : List ℕ) → List ℕ
pair_text number path_a path_b =
    codes "pair " ++ (decimal number ++ (codes ": " ++ (told_path path_a ++ (codes " " ++ (told_path path_b ++ codes "\n")))))

-- it is written; where there is no memory for that, nothing is
abbrev pub PrintsPair : (err : Moved) → (text : List ℕ) → (status result : ℕ) → Type 0
PrintsPair err text status result = Writes err.old err.new text status result ⊎ ((err.new ≡ err.old) × (result ≡ status))
