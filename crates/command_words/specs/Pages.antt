-- The page of each word.
use Rattle.std.specs.Prelude.{ℕ, List}
use Rattle.command_words.specs.declared.help_pages.TheConstants.{ALIGN, CONVERT, EXPLAIN, HELP, PLAY, SHOW, TAP}
use Rattle.command_words.specs.declared.judging_pages.TheConstants.{ALONE, CHECK, COVER, DRAW, WHY}
use Rattle.command_words.specs.declared.page.Page.{Page}
use Rattle.command_words.specs.declared.page.Page.TheVariants as of

abbrev pub page_text : Page → List ℕ
page_text of.Check = CHECK.now
page_text of.Alone = ALONE.now
page_text of.Why = WHY.now
page_text of.Cover = COVER.now
page_text of.Draw = DRAW.now
page_text of.Show = SHOW.now
page_text of.Play = PLAY.now
page_text of.Convert = CONVERT.now
page_text of.Align = ALIGN.now
page_text of.Tap = TAP.now
page_text of.Help = HELP.now
page_text of.Explain = EXPLAIN.now
