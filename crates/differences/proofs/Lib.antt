pub mod DifferencesLaws
