use Rattle.accusing_links.proofs.Prelude.{◌≡◌, true, take, list_all, has, is_right_word}
use Rattle.accusing_links.proofs.link_accuser.LinkAccuser.have_passed.Given as goal

abbrev pub invariant-loop-word : goal.invariant-loop-word
invariant-loop-word l = list_all (is_right_word (has l.self.segments l.own l.far)) (take l.word-index l.words) ≡ true
