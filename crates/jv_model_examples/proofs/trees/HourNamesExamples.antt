-- Names and inodes of hours.
use Rattle.std.specs.Prelude.{◌≡◌, ℕ, List, [], ◌∷◌, map, codes}
use Rattle.std.proofs.Common.{refl}
use Rattle.jv_model.specs.declared.limits.TheConstants.{LAST_MOMENT}
use Rattle.jv_model.specs.promise.tree.HourNames.{hour_at, hour_name}
use Rattle.jv_model.specs.promise.tree.Trash.{hour_inode, hour_of}
use Rattle.jv_model.proofs.TreeComputeLaws.{names_compute}

abbrev moments : List ℕ
moments =
    0
    ∷ 3599
    ∷ 3600
    ∷ 86399
    ∷ 86400
    ∷ 5097599
    ∷ 5097600
    ∷ 68169600
    ∷ 68255999
    ∷ 946684799
    ∷ 951782400
    ∷ 951868800
    ∷ 1709251199
    ∷ 1709251200
    ∷ 4107542399
    ∷ 4107542400
    ∷ 13574649599
    ∷ 137438953471
    ∷ []

-- round the ends of months and years, and round leap days, of which 2100 has none; and the last moment of the clock
hours_have_names : map (λ moment. hour_name (hour_at moment)) moments ≡ (
    codes "1970-01-01-00"
    ∷ codes "1970-01-01-00"
    ∷ codes "1970-01-01-01"
    ∷ codes "1970-01-01-23"
    ∷ codes "1970-01-02-00"
    ∷ codes "1970-02-28-23"
    ∷ codes "1970-03-01-00"
    ∷ codes "1972-02-29-00"
    ∷ codes "1972-02-29-23"
    ∷ codes "1999-12-31-23"
    ∷ codes "2000-02-29-00"
    ∷ codes "2000-03-01-00"
    ∷ codes "2024-02-29-23"
    ∷ codes "2024-03-01-00"
    ∷ codes "2100-02-28-23"
    ∷ codes "2100-03-01-00"
    ∷ codes "2400-02-29-23"
    ∷ codes "6325-04-08-15"
    ∷ []
    )
unfolding names_compute
hours_have_names = refl

-- the first hour's inode comes behind the last hour's
inodes_of_hours : map hour_inode (0 ∷ 1 ∷ hour_at 1709251199 ∷ hour_at LAST_MOMENT ∷ [])
    ≡ 9223372032866421456 ∷ 9223372032828243969 ∷ 9223372032828718759 ∷ 9223372032866421455 ∷ []
inodes_of_hours = refl

hours_of_inodes : map (λ hour. hour_of (hour_inode hour)) (0 ∷ 1 ∷ hour_at LAST_MOMENT ∷ []) ≡ 0 ∷ 1 ∷ hour_at LAST_MOMENT ∷ []
hours_of_inodes = refl
