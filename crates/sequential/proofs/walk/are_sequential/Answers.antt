use Rattle.sequential.proofs.Sequences.{all_funs, fun_goes_on, fun_stops}
use Rattle.sequential.proofs.walk.are_sequential.Goals as goal
