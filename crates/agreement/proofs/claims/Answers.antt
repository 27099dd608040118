-- `agreement::claims` meets its contract: each claim by its theorem.
use Rattle.agreement.proofs.Runs.{demand_2, accepted_after, any_output}
use Rattle.agreement.proofs.Witness.{demand_3, parity_needed}
use Rattle.agreement.proofs.GapClaims.{gap_is, beside_gap}
use Rattle.agreement.proofs.Values.{values}
use Rattle.agreement.proofs.claims.Goals as goal

pub returns : goal.returns
returns c = record { demand_2 = demand_2; demand_3 = demand_3; parity_needed = parity_needed; accepted_after = accepted_after; any_output = any_output; gap = gap_is; beside_gap = beside_gap; values = values }
