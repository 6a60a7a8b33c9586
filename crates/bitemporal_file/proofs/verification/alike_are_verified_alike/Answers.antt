use Rattle.bitemporal_file.proofs.VerificationFacts.{verified_alike}
use Rattle.bitemporal_file.proofs.verification.alike_are_verified_alike.Goals as goal

pub returns : goal.returns
returns c = verified_alike
