-- The numbers of the descriptions that a target or a convention follows (REFERENCE 5.5); proofs/Numbered.antt has that each is its
-- description's.
use Rattle.std.specs.Prelude.{ℕ}

abbrev pub sysv_amd64_number : ℕ
sysv_amd64_number = 0

abbrev pub aapcs64_number : ℕ
aapcs64_number = 1

abbrev pub darwin_arm64_number : ℕ
darwin_arm64_number = 2

abbrev pub windows_arm64_number : ℕ
windows_arm64_number = 3

abbrev pub win64_number : ℕ
win64_number = 4

abbrev pub riscv_lp64d_number : ℕ
riscv_lp64d_number = 5

abbrev pub i386_sysv_number : ℕ
i386_sysv_number = 6

abbrev pub i386_sysv_regparm_1_number : ℕ
i386_sysv_regparm_1_number = 7

abbrev pub i386_sysv_regparm_2_number : ℕ
i386_sysv_regparm_2_number = 8

abbrev pub i386_sysv_regparm_3_number : ℕ
i386_sysv_regparm_3_number = 9

abbrev pub i386_sysv_stdcall_number : ℕ
i386_sysv_stdcall_number = 14

abbrev pub i386_sysv_fastcall_number : ℕ
i386_sysv_fastcall_number = 22

abbrev pub i386_mingw_number : ℕ
i386_mingw_number = 24

abbrev pub i386_msvc_number : ℕ
i386_msvc_number = 25

abbrev pub i386_mingw_stdcall_number : ℕ
i386_mingw_stdcall_number = 26

abbrev pub i386_mingw_fastcall_number : ℕ
i386_mingw_fastcall_number = 27

abbrev pub i386_msvc_stdcall_number : ℕ
i386_msvc_stdcall_number = 28

abbrev pub i386_msvc_fastcall_number : ℕ
i386_msvc_fastcall_number = 29
