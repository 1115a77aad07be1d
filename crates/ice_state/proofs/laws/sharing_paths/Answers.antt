use Rattle.std.proofs.Common.{arith}
use Rattle.ice_state.specs.Outcomes.{by_path, path_before}
use Rattle.contract_words.proofs.Sorted.{sorted_rises}
use Rattle.ice_state.proofs.Sharing.{order, none_shared, least_shared, count-by_path}
use Rattle.ice_state.proofs.laws.sharing_paths.Goals as goal

pub returns : goal.returns
returns c =
    record {
      found = λ xs p fs h.
          let l = least_shared (by_path xs) p fs (sorted_rises path_before order xs) h in
          record {
            shared = omega (arith, l.0, count-by_path xs p);
            least = λ q k. l.1 q (omega (arith, k, count-by_path xs q));
          };
      none = λ xs p h. omega (
        arith,
        none_shared (by_path xs) p (sorted_rises path_before order xs) h,
        count-by_path xs
            p,
      );
    }
