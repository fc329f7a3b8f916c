-- What `help` prints.
use Rattle.std.specs.Prelude.{ℕ, List, ◌++◌, codes}
use Rattle.command_words.specs.declared.help_pages.TheConstants.{PROGRAM}
use Rattle.command_words.specs.Pages.{page_text}
use Rattle.ddcap.specs.declared.help.Topic.{Topic}
use Rattle.ddcap.specs.declared.help.Topic.TheVariants as on
use Rattle.ddcap.specs.declared.help.TheConstants.{VERSION}

-- the page of a word as it is in the row of the word, and that of the whole, before which the name and the version come
abbrev pub help_text : Topic → List ℕ
help_text on.Program = codes "ddcap " ++ (VERSION.now ++ PROGRAM.now)
help_text (on.Of word) = page_text word.now.page
