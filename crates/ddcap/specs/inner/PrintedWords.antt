-- What is printed of words that are no task, and with which status that ends.
use Rattle.std.specs.Prelude.{ℕ, List, codes}
use Rattle.ddcap.specs.declared.words.WordsFault.{WordsFault}
use Rattle.ddcap.specs.declared.words.WordsFault.TheVariants as words

abbrev pub words_fault_text : WordsFault → List ℕ
words_fault_text words.BadWords = codes "bad words\n"
words_fault_text words.OutOfMemory = codes "out of memory\n"

abbrev pub words_fault_status : WordsFault → ℕ
words_fault_status words.BadWords = 2
words_fault_status words.OutOfMemory = 3
