-- Magnitudes of at most 2 × 10^11 and 10^6 have a product within 64 bits, which is read back as itself (`product_again`).
use Rattle.ledger.proofs.Fits.{product_again}
use Rattle.ledger.proofs.units.ContractsMulI64.mul.Goals as goal

pub returns : goal.returns
returns c = product_again c.args.weight c.args.self.0 c.requires.0 c.requires.1
