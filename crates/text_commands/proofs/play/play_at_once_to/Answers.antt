-- Where there is no memory for the page, nothing is read or written.
use Rattle.std.proofs.Common.{Err, inl, refl}
use Rattle.std.proofs.KnownBytes.{Keeps-refl}
use Rattle.pair_player.specs.declared.fault.PlayFault.TheVariants.{OutOfMemory}
use Rattle.text_commands.proofs.play.play_at_once_to.Goals as goal

pub returns-in_default-clause-played : goal.returns-in_default-clause-played
returns-in_default-clause-played g c = record {
  answer = Err OutOfMemory;
  plays = inl (record { a = Keeps-refl _; b = Keeps-refl _ });
  lines = tt;
  reads = refl;
  writes_a = refl;
  writes_b = refl;
  tells = (c.print_out_of_memory.ensures, refl);
}
