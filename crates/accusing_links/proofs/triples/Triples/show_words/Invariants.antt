use Rattle.accusing_links.proofs.Prelude.{◌≡◌, ◌||◌, ℕ, take, words_shown, has}
use Rattle.accusing_links.proofs.triples.Triples.show_words.Given as goal

abbrev pub invariant-loop-word : goal.invariant-loop-word
invariant-loop-word l = (a b c : ℕ) → has l.self a b c ≡ (words_shown l.first l.second (take l.word-index l.words) a b c || has l.fn.self a b c)
