-- How long a unit is at most.
use Rattle.std.proofs.Common.{◌≡◌, ◌≤◌, length, refl, arith, length-append}
use Rattle.wire_base.specs.BlockCheck.{check_bytes}
use Rattle.capture_record.specs.declared.limit.TheConstants.{MAX_MESSAGE}
use Rattle.ddcmp_msg.specs.Message.{MessageValue, Data, IsInRange}
use Rattle.ddcmp_msg.specs.Spelling.{header, with_check, rest_of, spelling}

six : (m : MessageValue) → length (header m) ≡ 6
six (Data flags resp num body) = refl
six m = refl

rest_short : (m : MessageValue) → IsInRange m → length (rest_of m) ≤ 16385
rest_short (Data flags resp num body) h = let e = length-append body (check_bytes body) in omega (arith, e, h.0, h.1)
rest_short m h = omega arith

pub unit_short : (m : MessageValue) → IsInRange m → length (spelling m) ≤ MAX_MESSAGE
unfolding spelling
unit_short m h =
    let all = length-append (with_check (header m)) (rest_of m) in let front = length-append (header m) (check_bytes (header m)) in
    let head = six m in let rest = rest_short m h in
    omega (arith, all, front, head, rest)

pub ruleset lengths = (unit_short)
