use Rattle.accusing_links.proofs.Prelude.{◌≡◌, false, take, list_any, told_by, is_back}
use Rattle.accusing_links.proofs.ack_accuser.AckAccuser.one_is_back.Given as goal

abbrev pub invariant-loop-word : goal.invariant-loop-word
invariant-loop-word l = list_any (is_back (told_by l.self) l.num l.own l.far) (take l.word-index l.words) ≡ false
