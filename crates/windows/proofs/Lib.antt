pub mod FourOnes
