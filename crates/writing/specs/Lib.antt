pub mod JudgedSheet
