-- Each number that has a name is the number of the description of that name.
use mathlib.Core.Path.{◌≡◌, refl}
use Rattle.abis.specs.Abis.{sysv_amd64, aapcs64, darwin_arm64, windows_arm64, win64, riscv_lp64d, i386_sysv, i386_sysv_regparm_1, i386_sysv_regparm_2, i386_sysv_regparm_3, i386_sysv_stdcall, i386_sysv_fastcall, i386_mingw, i386_msvc, i386_mingw_stdcall, i386_mingw_fastcall, i386_msvc_stdcall, i386_msvc_fastcall, descriptions, described}
use Rattle.abis.specs.RowNumbers.{sysv_amd64_number, aapcs64_number, darwin_arm64_number, windows_arm64_number, win64_number, riscv_lp64d_number, i386_sysv_number, i386_sysv_regparm_1_number, i386_sysv_regparm_2_number, i386_sysv_regparm_3_number, i386_sysv_stdcall_number, i386_sysv_fastcall_number, i386_mingw_number, i386_msvc_number, i386_mingw_stdcall_number, i386_mingw_fastcall_number, i386_msvc_stdcall_number, i386_msvc_fastcall_number}

pub numbered : (described sysv_amd64_number ≡ sysv_amd64)
    × (described aapcs64_number ≡ aapcs64)
    × (described darwin_arm64_number ≡ darwin_arm64)
    × (described windows_arm64_number ≡ windows_arm64)
    × (described win64_number ≡ win64)
    × (described riscv_lp64d_number ≡ riscv_lp64d)
    × (described i386_sysv_number ≡ i386_sysv)
    × (described i386_sysv_regparm_1_number ≡ i386_sysv_regparm_1)
    × (described i386_sysv_regparm_2_number ≡ i386_sysv_regparm_2)
    × (described i386_sysv_regparm_3_number ≡ i386_sysv_regparm_3)
    × (described i386_sysv_stdcall_number ≡ i386_sysv_stdcall)
    × (described i386_sysv_fastcall_number ≡ i386_sysv_fastcall)
    × (described i386_mingw_number ≡ i386_mingw)
    × (described i386_msvc_number ≡ i386_msvc)
    × (described i386_mingw_stdcall_number ≡ i386_mingw_stdcall)
    × (described i386_mingw_fastcall_number ≡ i386_mingw_fastcall)
    × (described i386_msvc_stdcall_number ≡ i386_msvc_stdcall)
    × (described i386_msvc_fastcall_number ≡ i386_msvc_fastcall)
unfolding described descriptions
numbered = (refl, refl, refl, refl, refl, refl, refl, refl, refl, refl, refl, refl, refl, refl, refl, refl, refl, refl)
