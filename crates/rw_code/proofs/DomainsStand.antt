-- The domain of words stands for that of numbers where the regions are laid out and the points of the file have addresses.
use Rattle.std.proofs.Common.{None, refl}
use Rattle.rw_words.specs.Addresses.{Addresses}
use Rattle.rw_domain.specs.Placed.{Placed}
use Rattle.rw_domain.specs.RegionsLaidOut.{RegionsAreLaidOut}
use Rattle.rw_domain.specs.LaidOut.{AtomsAreLaidOut, DomainsAreLaidOut, WordStands, KnownByteStands}
use Rattle.rw_machine.specs.Stands.{DomainsStand}
use Rattle.rw_machine.specs.Domains.{symbols, numbers}
use Rattle.rw_machine.proofs.StepLaw.{domains-stand as step_domains}
use Rattle.rw_code.specs.Known.{Labels, has_address}

module _ (l : Addresses) (labels : Labels) (atoms : AtomsAreLaidOut l (has_address labels)) where
  pub lies : (d t : Placed) → RegionsAreLaidOut l d t → DomainsAreLaidOut l (has_address labels) d t
  lies d t h = record { atoms = atoms; known_canary = refl; laid = h }

  pub domains-stand : DomainsStand (WordStands l (has_address labels)) (KnownByteStands l (has_address labels)) None (RegionsAreLaidOut l) symbols numbers
  domains-stand d t h = step_domains l (has_address labels) None d t (lies d t h, tt)
