use Rattle.ddcmp_msg.proofs.Damage.{damage_shows}
use Rattle.ddcmp_msg.proofs.laws.damaged_byte_shows.Goals as goal

pub returns : goal.returns
returns c = damage_shows
