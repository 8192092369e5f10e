-- The keeping rule: which conflicts are kept.
use Rattle.std.specs.Prelude.{cond, not, List, [], ◌∷◌, ◌++◌, length, filter, nat_le}
use Rattle.plan.specs.Placements.{Premises}
use Rattle.telling.specs.Tables.{any}
use Rattle.calls.specs.Networks.{within}
use Rattle.calls.specs.Running.{Outcome, quiet, conflict, spent}
use Rattle.calls.specs.Searching.{Finding, found, none_left, full, spent as tired}

-- The kept conflicts that do not contain r.
abbrev pub not_above : Premises → List Premises → List Premises
not_above r ks = filter (λ k. not (within r k)) ks

-- The conflict r is kept unless a kept one lies within it: those that contain it are dropped, the others close up and it comes last; with 64 left it is not kept.
unfoldable pub keep : Premises → List Premises → List Premises
keep r ks =
    cond (any (λ k. within k r) ks) ks
    (cond (nat_le 64 (length (not_above r ks))) (not_above r ks) (not_above r ks ++ (r ∷ [])))

-- What is kept after a run's answer.
abbrev pub keep_run : Outcome → List Premises → List Premises
keep_run quiet ks = ks
keep_run (conflict r) ks = keep r ks
keep_run spent ks = ks

-- What is kept after a seek's answer.
abbrev pub keep_seek : Finding → List Premises → List Premises
keep_seek found ks = ks
keep_seek (none_left r) ks = keep r ks
keep_seek full ks = ks
keep_seek tired ks = ks
